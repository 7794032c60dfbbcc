-- The reply codes of the standard: `amqp0-9-1.xml`, constants. After 311 stands the one that RabbitMQ added.
use Rattle.std.specs.Prelude.{ℕ, ◌==◌, List, [], ◌∷◌, Bool, true, false, Option, Some, None, codes, if◌then◌else◌}

-- a code, its name, and whether it is of a hard error, which closes the connection
pub record ReplyRow : Type 0 where
  pub code : ℕ
  pub name : List ℕ
  pub hard : Bool

abbrev reply : ℕ → List ℕ → ReplyRow
reply code name = record { code = code; name = name; hard = false }

abbrev hard_error : ℕ → List ℕ → ReplyRow
hard_error code name = record { code = code; name = name; hard = true }

abbrev pub reply_rows : List ReplyRow
reply_rows =
    reply 200 (codes "reply-success") ∷
    reply 311 (codes "content-too-large") ∷
    reply 312 (codes "no-route") ∷
    reply 313 (codes "no-consumers") ∷
    hard_error 320 (codes "connection-forced") ∷
    hard_error 402 (codes "invalid-path") ∷
    reply 403 (codes "access-refused") ∷
    reply 404 (codes "not-found") ∷
    reply 405 (codes "resource-locked") ∷
    reply 406 (codes "precondition-failed") ∷
    hard_error 501 (codes "frame-error") ∷
    hard_error 502 (codes "syntax-error") ∷
    hard_error 503 (codes "command-invalid") ∷
    hard_error 504 (codes "channel-error") ∷
    hard_error 505 (codes "unexpected-frame") ∷
    hard_error 506 (codes "resource-error") ∷
    hard_error 530 (codes "not-allowed") ∷
    hard_error 540 (codes "not-implemented") ∷
    hard_error 541 (codes "internal-error") ∷ []

-- the name of a code, if it is one of these
abbrev pub name_in : List ReplyRow → ℕ → Option (List ℕ)
name_in [] code = None
name_in (row ∷ rows) code = if code == row.code then Some row.name else name_in rows code

-- whether a code is one of these, and of a hard error
abbrev pub hard_in : List ReplyRow → ℕ → Bool
hard_in [] code = false
hard_in (row ∷ rows) code = if code == row.code then row.hard else hard_in rows code
