-- One feed more, and what comes of the octets that are read after.
use Rattle.std.proofs.Common.{◌≡◌, ℕ, ◌<◌, ◌≤◌, List, ◌++◌, length, drop, option_to_list, Option, Result, Ok, Err, sym, ◌∙◌, ap, subst, inr}
use Rattle.std.specs.Io.KnownBytes.{prepend_known}
use Rattle.amqp_model.specs.Stream.Endpoint.{Endpoint}
use Rattle.amqp_model.specs.History.Negotiation.{Config}
use Rattle.amqp_model.specs.Wire.Notes.{Role}
use Rattle.amqp_core.specs.Config.Settings.{config_view, role_for}
use Rattle.amqp_core.specs.declared.taken.Taken.{Taken}
use Rattle.amqp_core.specs.declared.faults.CoreFault.{CoreFault}
use Rattle.amqp_core.specs.declared.settings.Settings.{Settings}
use Rattle.amqp_io.specs.Intakes.{Intake, Feeds, FeedsOn, FeedsAll, once_more, after_taking}
use Rattle.amqp_io.specs.Refilling.{AreRead}
use Rattle.amqp_io.specs.Sessions.{Pulls, StopsFeeding, with_octets}
use Rattle.amqp_io.specs.declared.faults.IoFault.{IoFault}
use Rattle.amqp_io.specs.declared.faults.IoFault.TheVariants as io

-- a feed of these octets, of an end set up as the one that the feeds began with
pub feeds_as : (settings before : Settings) (result : Result Taken CoreFault) (old new : Endpoint) (octets piece : List ℕ)
    → before ≡ settings
    → piece ≡ octets
    → Feeds (role_for before) (config_view before) result old piece new
    → Feeds (role_for settings) (config_view settings) result old octets new
feeds_as settings before result old new octets piece same_settings same_octets feeds =
    subst (λ (s : Settings). Feeds (role_for s) (config_view s) result old octets new) same_settings
    (subst (λ (o : List ℕ). Feeds (role_for before) (config_view before) result old o new) same_octets feeds)

pub fed_further : (role : Role) (config : Config role) (old intake new : Intake) (taken : Taken)
    → FeedsOn role config old intake → 0 < length intake.octets
    → Feeds role config (Ok taken) intake.endpoint intake.octets new.endpoint
    → new.octets ≡ drop taken.octets intake.octets → new.events ≡ intake.events ++ option_to_list taken.event
    → FeedsOn role config old new
fed_further role config old intake new taken so_far some feeds octets events =
    let same : after_taking intake taken new.endpoint ≡ new =
    λ i. record { endpoint = new.endpoint; octets = sym octets i; events = sym events i } in
    subst (λ (k : Intake). FeedsOn role config old k) same (once_more intake taken new.endpoint so_far some feeds)

-- a fault in feeding what was read
pub stops_later : (room : ℕ) (role : Role) (config : Config role) (fault : IoFault) (old between new : Intake) (octets : List ℕ) (to_give left : Option (List ℕ))
    → FeedsAll role config old between → AreRead room octets to_give left → StopsFeeding role config fault (with_octets octets between) new
    → Pulls room role config (Err fault) old new to_give left
stops_later room role config (io.Core fault) old between new octets to_give left kept read stops =
    inr (record { between = between; octets = octets; kept_fed = kept; read = read; then_fed = stops })
stops_later room role config io.OutOfMemory old between new octets to_give left kept read stops =
    inr (record { between = between; octets = octets; kept_fed = kept; read = read; then_fed = stops })
stops_later room role config io.Read old between new octets to_give left kept read stops = absurd stops
stops_later room role config io.Write old between new octets to_give left kept read stops = absurd stops
stops_later room role config io.EndOfInput old between new octets to_give left kept read stops = absurd stops

-- what was read, into room that stayed, of a stream that was left alone before and after
pub read_from : (room kept : ℕ) (octets : List ℕ) (to_give before after left : Option (List ℕ))
    → kept ≡ room → before ≡ to_give → left ≡ after
    → AreRead kept octets before after → AreRead room octets to_give left
read_from room kept octets to_give before after left same first last read =
    record {
      some = read.some;
      most = subst (λ (most : ℕ). length octets ≤ most) same read.most;
      given = sym first ∙ (read.given ∙ ap (prepend_known octets) (sym last));
    }

-- what comes of feeding, of an end set up as the one that the feeds began with

pub stops_as : (settings before : Settings) (fault : IoFault) (old new : Intake) → before ≡ settings
    → StopsFeeding (role_for before) (config_view before) fault old new → StopsFeeding (role_for settings) (config_view settings) fault old new
stops_as settings before fault old new same stops = subst (λ (s : Settings). StopsFeeding (role_for s) (config_view s) fault old new) same stops

pub feeds_all_as : (settings before : Settings) (old new : Intake) → before ≡ settings
    → FeedsAll (role_for before) (config_view before) old new → FeedsAll (role_for settings) (config_view settings) old new
feeds_all_as settings before old new same feeds = subst (λ (s : Settings). FeedsAll (role_for s) (config_view s) old new) same feeds
