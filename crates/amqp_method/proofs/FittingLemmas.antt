-- Arguments that fit their fields, and what is written of them.
use Rattle.std.proofs.Common.{ℕ, ◌<◌, ◌^◌, List, [], ◌∷◌, length, Bool, true, false, Option, Some, None, refl, arith}
use Rattle.byteorder.specs.Endian.{big_bytes}
use Rattle.amqp_value.specs.Fields.{EncodesNumber}
use Rattle.amqp_value.specs.Plain.{plain_scalar, plain_field, plain_items, plain_pairs}
use Rattle.amqp_value.specs.Encoding.{EncodesScalar, EncodesField, EncodesItems, EncodesPairs}
use Rattle.amqp_value.specs.Values.{Scalar, boolean, short_short_int, short_short_uint, errata_short_int, short_int, short_uint, long_int, long_uint, errata_long_long_int, long_long_int, float, double, decimal, timestamp, void, Datum, scalar, long_string as long_string_datum, byte_array, array, table as table_datum, Items, no_items, item, Pairs, no_pairs, pair}
use Rattle.amqp_method.specs.Arguments.{Argument, bit, octet, short, long, long_long, short_string, long_string, table, nothing}
use Rattle.amqp_method.specs.Kinds.{fields_of}
use Rattle.amqp_method.specs.Fitting.{ScalarFits, DatumFits, ItemsFit, PairsFit, ArgumentFits, ArgumentsFit, PropertiesFit}
use Rattle.amqp_method.specs.Laws.{MethodIsEncoded, HeaderIsEncoded}
use Rattle.amqp_method.specs.Methods.{FieldRow, row}
use Rattle.amqp_method.specs.Plain.{value_for, args_left_by, complete}
use Rattle.amqp_method.specs.Writing.{Fitting, AllFitting, PresentFitting}
use Rattle.amqp_method.specs.declared.fields.FieldKind.{FieldKind}
use Rattle.amqp_method.specs.declared.fields.FieldKind.TheVariants.{Bit, Octet, Short, Long, LongLong, ShortStr, LongStr, Table}
use Rattle.amqp_method.specs.declared.kinds.Kind.{Kind}
use Rattle.amqp_method.specs.declared.kinds.Kind.TheVariants.{ConnectionStart, ConnectionStartOk, ConnectionSecure, ConnectionSecureOk, ConnectionTune, ConnectionTuneOk, ConnectionOpen, ConnectionOpenOk, ConnectionClose, ConnectionCloseOk, ConnectionBlocked, ConnectionUnblocked, ChannelOpen, ChannelOpenOk, ChannelFlow, ChannelFlowOk, ChannelClose, ChannelCloseOk, ExchangeDeclare, ExchangeDeclareOk, ExchangeDelete, ExchangeDeleteOk, ExchangeBind, ExchangeBindOk, ExchangeUnbind, ExchangeUnbindOk, QueueDeclare, QueueDeclareOk, QueueBind, QueueBindOk, QueueUnbind, QueueUnbindOk, QueuePurge, QueuePurgeOk, QueueDelete, QueueDeleteOk, BasicQos, BasicQosOk, BasicConsume, BasicConsumeOk, BasicCancel, BasicCancelOk, BasicPublish, BasicReturn, BasicDeliver, BasicGet, BasicGetOk, BasicGetEmpty, BasicAck, BasicReject, BasicRecoverAsync, BasicRecover, BasicRecoverOk, BasicNack, TxSelect, TxSelectOk, TxCommit, TxCommitOk, TxRollback, TxRollbackOk, ConfirmSelect, ConfirmSelectOk}
use Rattle.amqp_method.proofs.CompleteLemmas.{method_encoded}
use Rattle.amqp_method.proofs.HeaderLemmas.{header_encoded}

number-encoded : (n number : ℕ) → number < 256 ^ n → EncodesNumber n number (big_bytes n number)
number-encoded n number fits = record { fits = fits; octets_are = refl }

-- ---- the values of a table

scalar-encoded : (s : Scalar) → ScalarFits s → EncodesScalar s (plain_scalar s)
scalar-encoded (boolean false) fits = refl
scalar-encoded (boolean true) fits = (1, omega arith, omega arith, refl)
scalar-encoded (short_short_int n) fits = record { fits = fits; octets_are = refl }
scalar-encoded (short_short_uint n) fits = number-encoded 1 n (omega arith)
scalar-encoded (errata_short_int n) fits = record { fits = fits; octets_are = refl }
scalar-encoded (short_int n) fits = record { fits = fits; octets_are = refl }
scalar-encoded (short_uint n) fits = number-encoded 2 n (omega arith)
scalar-encoded (long_int n) fits = record { fits = fits; octets_are = refl }
scalar-encoded (long_uint n) fits = number-encoded 4 n (omega arith)
scalar-encoded (errata_long_long_int n) fits = record { fits = fits; octets_are = refl }
scalar-encoded (long_long_int n) fits = record { fits = fits; octets_are = refl }
scalar-encoded (float octets) fits = record { fits = fits.0; octets_are = refl }
scalar-encoded (double octets) fits = record { fits = fits.0; octets_are = refl }
scalar-encoded (decimal scale number) fits = (big_bytes 1 scale, big_bytes 4 number, refl, number-encoded 1 scale (omega arith), number-encoded 4 number (omega arith))
scalar-encoded (timestamp n) fits = number-encoded 8 n (omega arith)
scalar-encoded void fits = refl

mutual
  field-encoded : (value : Datum) → DatumFits value → EncodesField value (plain_field value)
  field-encoded (scalar s) fits = scalar-encoded s fits
  field-encoded (long_string_datum text) fits = record { fits = fits.0; octets_are = refl }
  field-encoded (byte_array octets) fits = record { fits = fits.0; octets_are = refl }
  field-encoded (array items) fits = (plain_items items, record { fits = fits.0; octets_are = refl }, items-encoded items fits.1)
  field-encoded (table_datum pairs) fits = (plain_pairs pairs, record { fits = fits.0; octets_are = refl }, pairs-encoded pairs fits.1)

  items-encoded : (items : Items) → ItemsFit items → EncodesItems items (plain_items items)
  items-encoded no_items fits = refl
  items-encoded (item value items) fits = (plain_field value, plain_items items, refl, field-encoded value fits.0, items-encoded items fits.1)

  pairs-encoded : (pairs : Pairs) → PairsFit pairs → EncodesPairs pairs (plain_pairs pairs)
  pairs-encoded no_pairs fits = refl
  pairs-encoded (pair name value pairs) fits =
      (length name ∷ name, plain_field value, plain_pairs pairs, refl, record { fits = fits.0.0; octets_are = refl }, field-encoded value fits.1, pairs-encoded pairs fits.2)

-- ---- arguments and properties

argument-fitting : (value : Argument) → ArgumentFits value → Fitting value
argument-fitting (bit holds) fits = tt
argument-fitting (octet n) fits = number-encoded 1 n (omega arith)
argument-fitting (short n) fits = number-encoded 2 n (omega arith)
argument-fitting (long n) fits = number-encoded 4 n (omega arith)
argument-fitting (long_long n) fits = number-encoded 8 n (omega arith)
argument-fitting (short_string text) fits = record { fits = fits.0; octets_are = refl }
argument-fitting (long_string text) fits = record { fits = fits.0; octets_are = refl }
argument-fitting (table pairs) fits = (fits.0, field-encoded (table_datum pairs) fits.1)

nothing-fits : (kind : FieldKind) → ArgumentFits (nothing kind)
nothing-fits Bit = tt
nothing-fits Octet = omega arith
nothing-fits Short = omega arith
nothing-fits Long = omega arith
nothing-fits LongLong = omega arith
nothing-fits ShortStr = (omega arith, tt)
nothing-fits LongStr = (omega arith, tt)
nothing-fits Table = (omega arith, (omega arith, tt))

value-fits : (reserved : Bool) (kind : FieldKind) (args : List Argument) → ArgumentsFit args → ArgumentFits (value_for reserved kind args)
value-fits true kind args fit = nothing-fits kind
value-fits false kind [] fit = nothing-fits kind
value-fits false kind (value ∷ args) fit = fit.0

left-fit : (reserved : Bool) (args : List Argument) → ArgumentsFit args → ArgumentsFit (args_left_by reserved args)
left-fit true args fit = fit
left-fit false [] fit = tt
left-fit false (value ∷ args) fit = fit.1

complete-fitting : (fields : List FieldRow) (args : List Argument) → ArgumentsFit args → AllFitting (complete fields args)
complete-fitting [] args fit = tt
complete-fitting (f ∷ fields) args fit =
    (argument-fitting (value_for f.reserved f.kind args) (value-fits f.reserved f.kind args fit), complete-fitting fields (args_left_by f.reserved args) (left-fit f.reserved args fit))

present-fitting : (properties : List (Option Argument)) → PropertiesFit properties → PresentFitting properties
present-fitting [] fit = tt
present-fitting (None ∷ properties) fit = (tt, present-fitting properties fit.1)
present-fitting (Some value ∷ properties) fit = (argument-fitting value fit.0, present-fitting properties fit.1)

-- ---- methods and headers

-- the class id and the method id are numbers of two octets
ids-fit : (kind : Kind) → ((row kind).class < 2 ^ 16) × ((row kind).id < 2 ^ 16)
ids-fit ConnectionStart = (omega arith, omega arith)
ids-fit ConnectionStartOk = (omega arith, omega arith)
ids-fit ConnectionSecure = (omega arith, omega arith)
ids-fit ConnectionSecureOk = (omega arith, omega arith)
ids-fit ConnectionTune = (omega arith, omega arith)
ids-fit ConnectionTuneOk = (omega arith, omega arith)
ids-fit ConnectionOpen = (omega arith, omega arith)
ids-fit ConnectionOpenOk = (omega arith, omega arith)
ids-fit ConnectionClose = (omega arith, omega arith)
ids-fit ConnectionCloseOk = (omega arith, omega arith)
ids-fit ConnectionBlocked = (omega arith, omega arith)
ids-fit ConnectionUnblocked = (omega arith, omega arith)
ids-fit ChannelOpen = (omega arith, omega arith)
ids-fit ChannelOpenOk = (omega arith, omega arith)
ids-fit ChannelFlow = (omega arith, omega arith)
ids-fit ChannelFlowOk = (omega arith, omega arith)
ids-fit ChannelClose = (omega arith, omega arith)
ids-fit ChannelCloseOk = (omega arith, omega arith)
ids-fit ExchangeDeclare = (omega arith, omega arith)
ids-fit ExchangeDeclareOk = (omega arith, omega arith)
ids-fit ExchangeDelete = (omega arith, omega arith)
ids-fit ExchangeDeleteOk = (omega arith, omega arith)
ids-fit ExchangeBind = (omega arith, omega arith)
ids-fit ExchangeBindOk = (omega arith, omega arith)
ids-fit ExchangeUnbind = (omega arith, omega arith)
ids-fit ExchangeUnbindOk = (omega arith, omega arith)
ids-fit QueueDeclare = (omega arith, omega arith)
ids-fit QueueDeclareOk = (omega arith, omega arith)
ids-fit QueueBind = (omega arith, omega arith)
ids-fit QueueBindOk = (omega arith, omega arith)
ids-fit QueueUnbind = (omega arith, omega arith)
ids-fit QueueUnbindOk = (omega arith, omega arith)
ids-fit QueuePurge = (omega arith, omega arith)
ids-fit QueuePurgeOk = (omega arith, omega arith)
ids-fit QueueDelete = (omega arith, omega arith)
ids-fit QueueDeleteOk = (omega arith, omega arith)
ids-fit BasicQos = (omega arith, omega arith)
ids-fit BasicQosOk = (omega arith, omega arith)
ids-fit BasicConsume = (omega arith, omega arith)
ids-fit BasicConsumeOk = (omega arith, omega arith)
ids-fit BasicCancel = (omega arith, omega arith)
ids-fit BasicCancelOk = (omega arith, omega arith)
ids-fit BasicPublish = (omega arith, omega arith)
ids-fit BasicReturn = (omega arith, omega arith)
ids-fit BasicDeliver = (omega arith, omega arith)
ids-fit BasicGet = (omega arith, omega arith)
ids-fit BasicGetOk = (omega arith, omega arith)
ids-fit BasicGetEmpty = (omega arith, omega arith)
ids-fit BasicAck = (omega arith, omega arith)
ids-fit BasicReject = (omega arith, omega arith)
ids-fit BasicRecoverAsync = (omega arith, omega arith)
ids-fit BasicRecover = (omega arith, omega arith)
ids-fit BasicRecoverOk = (omega arith, omega arith)
ids-fit BasicNack = (omega arith, omega arith)
ids-fit TxSelect = (omega arith, omega arith)
ids-fit TxSelectOk = (omega arith, omega arith)
ids-fit TxCommit = (omega arith, omega arith)
ids-fit TxCommitOk = (omega arith, omega arith)
ids-fit TxRollback = (omega arith, omega arith)
ids-fit TxRollbackOk = (omega arith, omega arith)
ids-fit ConfirmSelect = (omega arith, omega arith)
ids-fit ConfirmSelectOk = (omega arith, omega arith)

pub plain_method-encoded : MethodIsEncoded
plain_method-encoded c fit arguments =
    let ids = ids-fit c.kind in
    method_encoded c (row c.kind).class (row c.kind).id (fields_of c.kind) c.args refl refl refl refl fit
    (argument-fitting (short (row c.kind).class) ids.0) (argument-fitting (short (row c.kind).id) ids.1) (complete-fitting (fields_of c.kind) c.args arguments)

pub plain_header-encoded : HeaderIsEncoded
plain_header-encoded h size kinds properties = header_encoded h size kinds (present-fitting h.properties properties)
