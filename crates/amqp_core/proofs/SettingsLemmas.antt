-- The configuration that settings say, by the hello that they have.
use Rattle.std.proofs.Common.{◌≡◌, Option, refl, sym, ap, ◌∙◌, subst}
use Rattle.amqp_method.specs.Fitting.{FitsShort}
use Rattle.amqp_model.specs.End.Fitting.{ConfigFault, HostFits, config_fault}
use Rattle.amqp_model.specs.History.Negotiation as model
use Rattle.amqp_model.specs.History.Negotiation.{Config}
use Rattle.amqp_model.specs.Wire.Notes.{Role}
use Rattle.amqp_core.specs.Config.Configs.{said_in, set_up_as}
use Rattle.amqp_core.specs.Config.KeptHello.{hello_at}
use Rattle.amqp_core.specs.Config.Settings.{role_in, hello_view, limited, role_for, config_view}
use Rattle.amqp_core.specs.declared.kept_hello.Kept.{Kept}
use Rattle.amqp_core.specs.declared.settings.ClientHello.{ClientHello}
use Rattle.amqp_core.specs.declared.settings.ServerHello.{ServerHello}
use Rattle.amqp_core.specs.declared.settings.Hello.{Hello}
use Rattle.amqp_core.specs.declared.settings.Hello.TheVariants as code
use Rattle.amqp_core.specs.declared.settings.Settings.{Settings}

-- the settings with another hello, and their configuration
abbrev with_hello : Settings → Hello → Settings
with_hello settings hello = record settings { hello = hello }

abbrev pub config_with : Settings → (hello : Hello) → Config (role_in hello)
config_with settings hello = config_view (with_hello settings hello)

-- what holds of the configuration with the hello that the settings have holds of theirs
pub by_hello : (P : (role : Role) → Config role → Type 0) (settings : Settings) (hello : Hello) → settings.hello ≡ hello
    → P (role_in hello) (config_with settings hello) → P (role_for settings) (config_view settings)
by_hello P settings hello is holds =
    let Q : Hello → Type 0 = λ h. P (role_in h) (config_with settings h) in
    subst Q (sym is) holds

-- the hello of settings is the one that lies where they keep it
pub kept_as : {kept there : Kept} {seen settings : Settings} → kept ≡ there → seen ≡ settings → seen.hello ≡ hello_at kept
    → settings.hello ≡ hello_at there
kept_as {kept} {there} {seen} {settings} is same lies = sym (ap (λ (s : Settings). s.hello) same) ∙ (lies ∙ ap hello_at is)

-- a client's hello lies in a box, and is read there
pub boxed_as : {hello : Hello} {boxed client : ClientHello} → hello ≡ code.Client boxed → client ≡ boxed → hello ≡ code.Client client
boxed_as is same = is ∙ ap code.Client (sym same)

-- what is at fault in settings is at fault in their limits and their hello
pub faults_limited : (settings : Settings)
    → config_fault (role_for settings) (config_view settings)
    ≡ config_fault (role_in settings.hello) (limited settings.frame_max settings.channel_max settings.hello)
faults_limited settings = go settings.hello
  where
    go : (hello : Hello) → config_fault (role_in hello) (config_with settings hello)
        ≡ config_fault (role_in hello) (limited settings.frame_max settings.channel_max hello)
    go (code.Client hello) = refl
    go (code.Server hello) = refl

pub fault_limited : (settings : Settings) (hello : Hello) (found : Option ConfigFault) → hello ≡ settings.hello
    → found ≡ config_fault (role_in hello) (limited settings.frame_max settings.channel_max hello)
    → found ≡ config_fault (role_for settings) (config_view settings)
fault_limited settings hello found is at =
    let P : Hello → Type 0 = λ h. found ≡ config_fault (role_in h) (limited settings.frame_max settings.channel_max h) in
    subst P is at ∙ sym (faults_limited settings)

-- the virtual host of a client fits its field, and a server has none
pub client_host : (hello : Hello) (client : ClientHello) → hello ≡ code.Client client → FitsShort client.virtual_host → HostFits (hello_view hello)
client_host hello client is fits = let P : Hello → Type 0 = λ h. HostFits (hello_view h) in subst P (sym is) fits

pub server_host : (hello : Hello) (server : ServerHello) → hello ≡ code.Server server → HostFits (hello_view hello)
server_host hello server is = let P : Hello → Type 0 = λ h. HostFits (hello_view h) in subst P (sym is) tt

-- settings whose hellos say the same are set up alike
abbrev set_up_with : Settings → (role : Role) × model.Hello role → (role : Role) × Config role
set_up_with settings said =
    let config : Config said.0 = record {
      frame_max = settings.frame_max;
      channel_max = settings.channel_max;
      max_body = settings.max_body;
      heartbeat = settings.heartbeat;
      gated = settings.gated;
      hello = said.1;
    } in
    (said.0, config)

pub set_up_alike : (settings : Settings) (hello : Hello) → said_in hello ≡ said_in settings.hello
    → set_up_as (with_hello settings hello) ≡ set_up_as settings
set_up_alike settings hello same = ap (set_up_with settings) same
