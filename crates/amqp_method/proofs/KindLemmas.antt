-- Two numbers name one kind at most, and each kind has a pair of its own.
use Rattle.std.proofs.Common.{◌≡◌, ℕ, ◌==◌, cond, List, [], ◌∷◌, Bool, true, false, Some, None, refl, sym, ◌∙◌, inl, inr, ◌⊎◌}
use Rattle.std.proofs.lemmas.Bool.{eqb-true}
use Rattle.amqp_method.specs.Kinds.{HasIds, sends, has_content, with_id, kind_with, connection_kinds, channel_kinds, exchange_kinds, queue_kinds, basic_kinds, tx_kinds, confirm_kinds}
use Rattle.amqp_method.specs.Methods.{row}
use Rattle.amqp_method.specs.declared.kinds.Kind.{Kind}
use Rattle.amqp_method.specs.declared.kinds.Kind.TheVariants.{ConnectionStart, ConnectionStartOk, ConnectionSecure, ConnectionSecureOk, ConnectionTune, ConnectionTuneOk, ConnectionOpen, ConnectionOpenOk, ConnectionClose, ConnectionCloseOk, ConnectionBlocked, ConnectionUnblocked, ChannelOpen, ChannelOpenOk, ChannelFlow, ChannelFlowOk, ChannelClose, ChannelCloseOk, ExchangeDeclare, ExchangeDeclareOk, ExchangeDelete, ExchangeDeleteOk, ExchangeBind, ExchangeBindOk, ExchangeUnbind, ExchangeUnbindOk, QueueDeclare, QueueDeclareOk, QueueBind, QueueBindOk, QueueUnbind, QueueUnbindOk, QueuePurge, QueuePurgeOk, QueueDelete, QueueDeleteOk, BasicQos, BasicQosOk, BasicConsume, BasicConsumeOk, BasicCancel, BasicCancelOk, BasicPublish, BasicReturn, BasicDeliver, BasicGet, BasicGetOk, BasicGetEmpty, BasicAck, BasicReject, BasicRecoverAsync, BasicRecover, BasicRecoverOk, BasicNack, TxSelect, TxSelectOk, TxCommit, TxCommitOk, TxRollback, TxRollbackOk, ConfirmSelect, ConfirmSelectOk}

-- which way a test went
chosen : {A : Type 0} (b : Bool) (x y z : A) → cond b x y ≡ z → ((b ≡ true) × (x ≡ z)) ⊎ ((b ≡ false) × (y ≡ z))
chosen true x y z e = inl (refl, e)
chosen false x y z e = inr (refl, e)

some_is : (k l : Kind) → Some k ≡ Some l → k ≡ l
some_is k l e = cc

none_is : (k : Kind) → None ≡ Some k → ⊥
none_is k e = cc

-- all of them are of the class
abbrev all_in : ℕ → List Kind → Bool
all_in class [] = true
all_in class (kind ∷ others) = cond ((row kind).class == class) (all_in class others) false

in_class : (b : Bool) (rest : Bool) → cond b rest false ≡ true → (b ≡ true) × (rest ≡ true)
in_class true rest e = (refl, e)
in_class false rest e = absurd cc

with_id-named : (class id : ℕ) (kinds : List Kind) (k : Kind) → all_in class kinds ≡ true → with_id id kinds ≡ Some k → HasIds class id k
unfolding with_id
with_id-named class id [] k all e = absurd cc
with_id-named class id (kind ∷ others) k all e =
    let here = in_class ((row kind).class == class) (all_in class others) all in
    elim (chosen (id == (row kind).id) (Some kind) (with_id id others) (Some k) e) [
      | inl h ↦
          let same : kind ≡ k = some_is kind k h.1 in
          rw (← same) (record { class_is = eqb-true (row kind).class class here.0; id_is = sym (eqb-true id (row kind).id h.0) })
      | inr h ↦ with_id-named class id others k here.1 h.1
    ]

connection-all : all_in 10 connection_kinds ≡ true
connection-all = refl

channel-all : all_in 20 channel_kinds ≡ true
channel-all = refl

exchange-all : all_in 40 exchange_kinds ≡ true
exchange-all = refl

queue-all : all_in 50 queue_kinds ≡ true
queue-all = refl

basic-all : all_in 60 basic_kinds ≡ true
basic-all = refl

tx-all : all_in 90 tx_kinds ≡ true
tx-all = refl

confirm-all : all_in 85 confirm_kinds ≡ true
confirm-all = refl

pub kind_with-named : (class id : ℕ) (k : Kind) → kind_with class id ≡ Some k → HasIds class id k
kind_with-named class id k e =
    elim (chosen (class == 10) (with_id id connection_kinds) (cond (class == 20) (with_id id channel_kinds) (cond (class == 40) (with_id id exchange_kinds) (cond (class == 50) (with_id id queue_kinds) (cond (class == 60) (with_id id basic_kinds) (cond (class == 90) (with_id id tx_kinds) (cond (class == 85) (with_id id confirm_kinds) None)))))) (Some k) e) [
      | inl h ↦ rw (eqb-true class 10 h.0) (with_id-named 10 id connection_kinds k connection-all h.1)
      | inr h0 ↦
          elim (chosen (class == 20) (with_id id channel_kinds) (cond (class == 40) (with_id id exchange_kinds) (cond (class == 50) (with_id id queue_kinds) (cond (class == 60) (with_id id basic_kinds) (cond (class == 90) (with_id id tx_kinds) (cond (class == 85) (with_id id confirm_kinds) None))))) (Some k) h0.1) [
            | inl h ↦ rw (eqb-true class 20 h.0) (with_id-named 20 id channel_kinds k channel-all h.1)
            | inr h1 ↦
                elim (chosen (class == 40) (with_id id exchange_kinds) (cond (class == 50) (with_id id queue_kinds) (cond (class == 60) (with_id id basic_kinds) (cond (class == 90) (with_id id tx_kinds) (cond (class == 85) (with_id id confirm_kinds) None)))) (Some k) h1.1) [
                  | inl h ↦ rw (eqb-true class 40 h.0) (with_id-named 40 id exchange_kinds k exchange-all h.1)
                  | inr h2 ↦
                      elim (chosen (class == 50) (with_id id queue_kinds) (cond (class == 60) (with_id id basic_kinds) (cond (class == 90) (with_id id tx_kinds) (cond (class == 85) (with_id id confirm_kinds) None))) (Some k) h2.1) [
                        | inl h ↦ rw (eqb-true class 50 h.0) (with_id-named 50 id queue_kinds k queue-all h.1)
                        | inr h3 ↦
                            elim (chosen (class == 60) (with_id id basic_kinds) (cond (class == 90) (with_id id tx_kinds) (cond (class == 85) (with_id id confirm_kinds) None)) (Some k) h3.1) [
                              | inl h ↦ rw (eqb-true class 60 h.0) (with_id-named 60 id basic_kinds k basic-all h.1)
                              | inr h4 ↦
                                  elim (chosen (class == 90) (with_id id tx_kinds) (cond (class == 85) (with_id id confirm_kinds) None) (Some k) h4.1) [
                                    | inl h ↦ rw (eqb-true class 90 h.0) (with_id-named 90 id tx_kinds k tx-all h.1)
                                    | inr h5 ↦
                                        elim (chosen (class == 85) (with_id id confirm_kinds) None (Some k) h5.1) [
                                          | inl h ↦ rw (eqb-true class 85 h.0) (with_id-named 85 id confirm_kinds k confirm-all h.1)
                                          | inr h6 ↦ absurd (none_is k h6.1)
                                        ]
                                  ]
                            ]
                      ]
                ]
          ]
    ]

pub kind_with-own : (k : Kind) → kind_with (row k).class (row k).id ≡ Some k
unfolding with_id
kind_with-own ConnectionStart = refl
kind_with-own ConnectionStartOk = refl
kind_with-own ConnectionSecure = refl
kind_with-own ConnectionSecureOk = refl
kind_with-own ConnectionTune = refl
kind_with-own ConnectionTuneOk = refl
kind_with-own ConnectionOpen = refl
kind_with-own ConnectionOpenOk = refl
kind_with-own ConnectionClose = refl
kind_with-own ConnectionCloseOk = refl
kind_with-own ConnectionBlocked = refl
kind_with-own ConnectionUnblocked = refl
kind_with-own ChannelOpen = refl
kind_with-own ChannelOpenOk = refl
kind_with-own ChannelFlow = refl
kind_with-own ChannelFlowOk = refl
kind_with-own ChannelClose = refl
kind_with-own ChannelCloseOk = refl
kind_with-own ExchangeDeclare = refl
kind_with-own ExchangeDeclareOk = refl
kind_with-own ExchangeDelete = refl
kind_with-own ExchangeDeleteOk = refl
kind_with-own ExchangeBind = refl
kind_with-own ExchangeBindOk = refl
kind_with-own ExchangeUnbind = refl
kind_with-own ExchangeUnbindOk = refl
kind_with-own QueueDeclare = refl
kind_with-own QueueDeclareOk = refl
kind_with-own QueueBind = refl
kind_with-own QueueBindOk = refl
kind_with-own QueueUnbind = refl
kind_with-own QueueUnbindOk = refl
kind_with-own QueuePurge = refl
kind_with-own QueuePurgeOk = refl
kind_with-own QueueDelete = refl
kind_with-own QueueDeleteOk = refl
kind_with-own BasicQos = refl
kind_with-own BasicQosOk = refl
kind_with-own BasicConsume = refl
kind_with-own BasicConsumeOk = refl
kind_with-own BasicCancel = refl
kind_with-own BasicCancelOk = refl
kind_with-own BasicPublish = refl
kind_with-own BasicReturn = refl
kind_with-own BasicDeliver = refl
kind_with-own BasicGet = refl
kind_with-own BasicGetOk = refl
kind_with-own BasicGetEmpty = refl
kind_with-own BasicAck = refl
kind_with-own BasicReject = refl
kind_with-own BasicRecoverAsync = refl
kind_with-own BasicRecover = refl
kind_with-own BasicRecoverOk = refl
kind_with-own BasicNack = refl
kind_with-own TxSelect = refl
kind_with-own TxSelectOk = refl
kind_with-own TxCommit = refl
kind_with-own TxCommitOk = refl
kind_with-own TxRollback = refl
kind_with-own TxRollbackOk = refl
kind_with-own ConfirmSelect = refl
kind_with-own ConfirmSelectOk = refl

-- each kind has numbers of its own
pub ids_distinct : (k l : Kind) → (row k).class ≡ (row l).class → (row k).id ≡ (row l).id → k ≡ l
ids_distinct k l class id = some_is k l (sym (kind_with-own k) ∙ rw (class, id) (kind_with-own l))

-- each kind is sent
pub each_sent : (k : Kind) → (sends true k ≡ true) ⊎ (sends false k ≡ true)
each_sent ConnectionStart = inr refl
each_sent ConnectionStartOk = inl refl
each_sent ConnectionSecure = inr refl
each_sent ConnectionSecureOk = inl refl
each_sent ConnectionTune = inr refl
each_sent ConnectionTuneOk = inl refl
each_sent ConnectionOpen = inl refl
each_sent ConnectionOpenOk = inr refl
each_sent ConnectionClose = inl refl
each_sent ConnectionCloseOk = inl refl
each_sent ConnectionBlocked = inr refl
each_sent ConnectionUnblocked = inr refl
each_sent ChannelOpen = inl refl
each_sent ChannelOpenOk = inr refl
each_sent ChannelFlow = inl refl
each_sent ChannelFlowOk = inl refl
each_sent ChannelClose = inl refl
each_sent ChannelCloseOk = inl refl
each_sent ExchangeDeclare = inl refl
each_sent ExchangeDeclareOk = inr refl
each_sent ExchangeDelete = inl refl
each_sent ExchangeDeleteOk = inr refl
each_sent ExchangeBind = inl refl
each_sent ExchangeBindOk = inr refl
each_sent ExchangeUnbind = inl refl
each_sent ExchangeUnbindOk = inr refl
each_sent QueueDeclare = inl refl
each_sent QueueDeclareOk = inr refl
each_sent QueueBind = inl refl
each_sent QueueBindOk = inr refl
each_sent QueueUnbind = inl refl
each_sent QueueUnbindOk = inr refl
each_sent QueuePurge = inl refl
each_sent QueuePurgeOk = inr refl
each_sent QueueDelete = inl refl
each_sent QueueDeleteOk = inr refl
each_sent BasicQos = inl refl
each_sent BasicQosOk = inr refl
each_sent BasicConsume = inl refl
each_sent BasicConsumeOk = inr refl
each_sent BasicCancel = inl refl
each_sent BasicCancelOk = inl refl
each_sent BasicPublish = inl refl
each_sent BasicReturn = inr refl
each_sent BasicDeliver = inr refl
each_sent BasicGet = inl refl
each_sent BasicGetOk = inr refl
each_sent BasicGetEmpty = inr refl
each_sent BasicAck = inl refl
each_sent BasicReject = inl refl
each_sent BasicRecoverAsync = inl refl
each_sent BasicRecover = inl refl
each_sent BasicRecoverOk = inr refl
each_sent BasicNack = inl refl
each_sent TxSelect = inl refl
each_sent TxSelectOk = inr refl
each_sent TxCommit = inl refl
each_sent TxCommitOk = inr refl
each_sent TxRollback = inl refl
each_sent TxRollbackOk = inr refl
each_sent ConfirmSelect = inl refl
each_sent ConfirmSelectOk = inr refl

pub content_is : (k : Kind) → has_content k ≡ true → (k ≡ BasicPublish) ⊎ (k ≡ BasicReturn) ⊎ (k ≡ BasicDeliver) ⊎ (k ≡ BasicGetOk)
content_is ConnectionStart e = absurd cc
content_is ConnectionStartOk e = absurd cc
content_is ConnectionSecure e = absurd cc
content_is ConnectionSecureOk e = absurd cc
content_is ConnectionTune e = absurd cc
content_is ConnectionTuneOk e = absurd cc
content_is ConnectionOpen e = absurd cc
content_is ConnectionOpenOk e = absurd cc
content_is ConnectionClose e = absurd cc
content_is ConnectionCloseOk e = absurd cc
content_is ConnectionBlocked e = absurd cc
content_is ConnectionUnblocked e = absurd cc
content_is ChannelOpen e = absurd cc
content_is ChannelOpenOk e = absurd cc
content_is ChannelFlow e = absurd cc
content_is ChannelFlowOk e = absurd cc
content_is ChannelClose e = absurd cc
content_is ChannelCloseOk e = absurd cc
content_is ExchangeDeclare e = absurd cc
content_is ExchangeDeclareOk e = absurd cc
content_is ExchangeDelete e = absurd cc
content_is ExchangeDeleteOk e = absurd cc
content_is ExchangeBind e = absurd cc
content_is ExchangeBindOk e = absurd cc
content_is ExchangeUnbind e = absurd cc
content_is ExchangeUnbindOk e = absurd cc
content_is QueueDeclare e = absurd cc
content_is QueueDeclareOk e = absurd cc
content_is QueueBind e = absurd cc
content_is QueueBindOk e = absurd cc
content_is QueueUnbind e = absurd cc
content_is QueueUnbindOk e = absurd cc
content_is QueuePurge e = absurd cc
content_is QueuePurgeOk e = absurd cc
content_is QueueDelete e = absurd cc
content_is QueueDeleteOk e = absurd cc
content_is BasicQos e = absurd cc
content_is BasicQosOk e = absurd cc
content_is BasicConsume e = absurd cc
content_is BasicConsumeOk e = absurd cc
content_is BasicCancel e = absurd cc
content_is BasicCancelOk e = absurd cc
content_is BasicPublish e = inl refl
content_is BasicReturn e = inr (inl refl)
content_is BasicDeliver e = inr (inr (inl refl))
content_is BasicGet e = absurd cc
content_is BasicGetOk e = inr (inr (inr refl))
content_is BasicGetEmpty e = absurd cc
content_is BasicAck e = absurd cc
content_is BasicReject e = absurd cc
content_is BasicRecoverAsync e = absurd cc
content_is BasicRecover e = absurd cc
content_is BasicRecoverOk e = absurd cc
content_is BasicNack e = absurd cc
content_is TxSelect e = absurd cc
content_is TxSelectOk e = absurd cc
content_is TxCommit e = absurd cc
content_is TxCommitOk e = absurd cc
content_is TxRollback e = absurd cc
content_is TxRollbackOk e = absurd cc
content_is ConfirmSelect e = absurd cc
content_is ConfirmSelectOk e = absurd cc
