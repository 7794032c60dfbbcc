-- What callers see of an end that is kept with its history.
use Rattle.amqp_model.specs.History.Negotiation.{Config}
use Rattle.amqp_model.specs.Wire.Notes.{Role}
use Rattle.amqp_core.specs.End.View as ends
use Rattle.amqp_core.specs.Heard.View.{Said}
use Rattle.amqp_core.specs.Traced.Fields.{kept_of}
use Rattle.amqp_core.specs.Traced.Tracing.{Kept}
use Rattle.amqp_core.specs.declared.roles.Role.{Ghosts}
use Rattle.amqp_core.specs.declared.settings.Settings.{Settings}
use Rattle.amqp_core.specs.declared.traced.Traced.{Traced}

-- what it is set up with
abbrev pub settings_at : {R H : Type 0} {G : Ghosts R H} → Traced R H G → Settings
settings_at traced = ends.settings_at traced.end

abbrev pub role_played : {R H : Type 0} {G : Ghosts R H} → Traced R H G → Role
role_played traced = ends.role_played traced.end

abbrev pub config_at : {R H : Type 0} {G : Ghosts R H} → (traced : Traced R H G) → Config (role_played traced)
config_at traced = ends.config_at traced.end

-- what the end keeps of the other end's words
abbrev pub heard_in : {R H : Type 0} {G : Ghosts R H} → Traced R H G → Said
heard_in traced = ends.heard_in traced.end

-- the end, its lists, and the octets that it was fed and wrote
abbrev pub traced_of : {R H : Type 0} {G : Ghosts R H} → Traced R H G → Kept
traced_of traced = kept_of traced.end traced.ledger
