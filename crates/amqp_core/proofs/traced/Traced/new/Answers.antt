-- A new end is the trace of nothing.
use Rattle.std.proofs.Common.{[], length, refl, ap, ◌∙◌, arith}
use Rattle.amqp_channel.specs.Roles.{role_of}
use Rattle.amqp_core.specs.End.View.{config_at, role_played}
use Rattle.amqp_core.specs.Traced.Fields.{kept_of}
use Rattle.amqp_core.proofs.TracedLemmas.{traced-new}
use Rattle.amqp_core.proofs.traced.Traced.new.Goals as goal

pub invariant_of-result : goal.invariant_of-result
invariant_of-result g c =
    let end = c.args.end in
    let begun = c.new-ledger.ensures in
    let ledger = record (c.new-ledger.result) { written = c.reserve_exact.new.self } in
    record {
      plays = ap role_of begun.side ∙ c.side.ensures;
      room = omega (arith, c.in_ok-reserve_exact.ensures.ok, ap length c.output.ensures.octets, c.reserve_exact.ensures.len, ap length begun.written);
      traces = ∣ (
        [],
        traced-new (role_played end) (config_at end) (kept_of end ledger) (c.octets_follow.ensures.new (role_played end) (config_at end)) c.requires
            begun.notes begun.told begun.said begun.fed (c.reserve_exact.ensures.items ∙ begun.written),
      ) ∣₁;
    }

pub returns : goal.returns
returns g c =
    let end = c.args.end in
    let begun = c.new-ledger.ensures in
    let ledger = record (c.new-ledger.result) { written = c.reserve_exact.new.self } in
    record {
      endpoint = refl;
      settings = refl;
      heard = refl;
      trace =
          traced-new (role_played end) (config_at end) (kept_of end ledger) (c.octets_follow.ensures.new (role_played end) (config_at end)) c.requires
          begun.notes begun.told begun.said begun.fed (c.reserve_exact.ensures.items ∙ begun.written);
      fed = begun.fed;
      written = c.reserve_exact.ensures.items ∙ begun.written;
      writes = end.kept.writes;
    }
