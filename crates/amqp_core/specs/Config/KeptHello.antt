-- A hello as an end keeps it.
use Rattle.amqp_core.specs.declared.kept_hello.Kept.{Kept}
use Rattle.amqp_core.specs.declared.kept_hello.Kept.TheVariants as kept
use Rattle.amqp_core.specs.declared.settings.Hello.{Hello}
use Rattle.amqp_core.specs.declared.settings.Hello.TheVariants as hellos

-- the hello that lies there
abbrev pub hello_at : Kept → Hello
hello_at (kept.Client hello) = hellos.Client hello.value
hello_at (kept.Server hello) = hellos.Server hello
