-- The greeting of settings and how long it is, by the hello that they have.
use Rattle.std.proofs.Common.{◌≡◌, ℕ, refl, sym, subst}
use Rattle.amqp_value.specs.Lengths.{capped}
use Rattle.amqp_value.specs.Tables.{table_view}
use Rattle.amqp_model.specs.End.Fitting.{greeting}
use Rattle.amqp_model.specs.Wire.Methods.{Method}
use Rattle.amqp_model.specs.History.Negotiation as model
use Rattle.amqp_model.specs.History.Negotiation.{Config}
use Rattle.amqp_model.specs.Wire.Notes.{Role, Client}
use Rattle.amqp_core.specs.Connection.HandshakeMethods.{IsGreetingLength, IsStart, IsStartLength, greeting_length, start_ok_with, start_ok_octets}
use Rattle.amqp_core.specs.Config.Settings.{client_hello_view, limited, role_in, role_for, config_view}
use Rattle.amqp_core.specs.declared.settings.ClientHello.{ClientHello}
use Rattle.amqp_core.specs.declared.settings.ServerHello.{ServerHello}
use Rattle.amqp_core.specs.declared.settings.Hello.{Hello}
use Rattle.amqp_core.specs.declared.settings.Hello.TheVariants as code
use Rattle.amqp_core.specs.declared.settings.Settings.{Settings}
use Rattle.amqp_core.proofs.GreetingLengths.{config_of}
use Rattle.amqp_core.proofs.SettingsLemmas.{by_hello, config_with}

abbrev Greets : Method → (role : Role) → Config role → Type 0
Greets method role config = method ≡ greeting role config

pub greets-client : (settings : Settings) (hello : ClientHello) (method : Method) → settings.hello ≡ code.Client hello
    → method ≡ start_ok_with hello hello.mechanism hello.response.items hello.locale
    → Greets method (role_for settings) (config_view settings)
greets-client settings hello method is said = by_hello (Greets method) settings (code.Client hello) is said

pub greets-server : (settings : Settings) (hello : ServerHello) (method : Method) → settings.hello ≡ code.Server hello → IsStart hello method
    → Greets method (role_for settings) (config_view settings)
greets-server settings hello method is said =
    by_hello (Greets method) settings (code.Server hello) is (said (config_with settings (code.Server hello)) refl)

-- how long it is

client_length : (client : ClientHello) (octets : ℕ)
    → octets ≡ capped (start_ok_octets (table_view client.properties) client.mechanism client.response.items client.locale)
    → (config : Config Client) → config.hello ≡ client_hello_view client → octets ≡ capped (greeting_length Client config)
client_length client octets said config same =
    let P : model.Hello Client → Type 0 = λ hello. octets ≡ capped (greeting_length Client (config_of hello)) in
    subst P (sym same) said

pub client-length : (hello : Hello) (client : ClientHello) (octets : ℕ) → hello ≡ code.Client client
    → octets ≡ capped (start_ok_octets (table_view client.properties) client.mechanism client.response.items client.locale)
    → IsGreetingLength hello octets
client-length hello client octets is said =
    let P : Hello → Type 0 = λ h. IsGreetingLength h octets in
    subst P (sym is) (client_length client octets said)

pub server-length : (hello : Hello) (server : ServerHello) (octets : ℕ) → hello ≡ code.Server server → IsStartLength server octets
    → IsGreetingLength hello octets
server-length hello server octets is said =
    let P : Hello → Type 0 = λ h. IsGreetingLength h octets in
    subst P (sym is) said

pub limited-length : (hello : Hello) (octets frame_max channel_max : ℕ) → IsGreetingLength hello octets
    → octets ≡ capped (greeting_length (role_in hello) (limited frame_max channel_max hello))
limited-length hello octets frame_max channel_max said = said (limited frame_max channel_max hello) refl
