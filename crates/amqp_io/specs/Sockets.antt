-- What callers see of a socket.
use Rattle.std.specs.Prelude.{◌≡◌, ℕ, Option, Some, None}
use Rattle.std.specs.IoError.{error_kind}
use Rattle.std.specs.declared.io.Error.{Error}
use Rattle.std.specs.declared.io.ErrorKind.{ErrorKind}
use Rattle.std.specs.declared.net.tcp.TcpStream.{TcpStream}

-- A TCP stream, why the last call that failed did so, and the marks of failures and of the input's end.
pub record Connected : Type 0 where
  pub stream : TcpStream
  pub failure : Option Error
  pub failures : ℕ
  pub ends : ℕ

-- there is an error, and it is of this kind
abbrev pub HasKind : ErrorKind → Option Error → Type 0
HasKind kind None = ⊥
HasKind kind (Some error) = error_kind error ≡ kind
