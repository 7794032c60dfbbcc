use Rattle.std.proofs.Common.{◌≡◌, slice_get, Some, ap, sym, ◌∙◌}
use Rattle.std.proofs.lemmas.Bool.{eqb-true}
use Rattle.std.proofs.lemmas.Map.Made.{lookup_key_passes}
use Rattle.amqp_channel.proofs.PlaceLemmas.{holds_at, keeps_entries_at, keeps_others_at, kept_at_place, put_at_place, taken_at_place, writes_at}
use Rattle.amqp_channel.proofs.channels.Channels.look_up.Goals as goal

found : (c : goal.In-Some) → slice_get c.args.self.now.used.entries c.in-Some.place ≡ Some (c.args.number, c.in-Some.field-0-2.now)
found c =
    let same = eqb-true c.args.number c.in-Some.field-0-1.now (lookup_key_passes _ c.args.self.now.used.entries c.in-Some.field-0-1.now (sym c.in-Some.ensures.key)) in
    c.in-Some.ensures.entry ∙ ap (λ key. Some (key, c.in-Some.field-0-2.now)) (sym same)

pub returns-clause-holds : goal.returns-clause-holds
returns-clause-holds c = holds_at c.args.self.now.used c.in-Some.place c.args.number c.in-Some.field-0-2.now c.requires.above c.requires.unique (found c)

pub returns-clause-written : goal.returns-clause-written
returns-clause-written c = writes_at c.args.self.now.used c.in-Some.place c.args.number c.in-Some.field-0-2.now c.requires.above c.requires.unique (found c)

pub returns-clause-kept : goal.returns-clause-kept
returns-clause-kept c = kept_at_place c.args.self.now.used c.in-Some.place c.args.number c.in-Some.field-0-2.now c.requires.above c.requires.unique (found c)

pub returns-clause-put : goal.returns-clause-put
returns-clause-put c = put_at_place c.args.self.now.used c.in-Some.place c.args.number c.in-Some.field-0-2.now c.requires.above c.requires.unique (found c)

pub returns-clause-others : goal.returns-clause-others
returns-clause-others c = keeps_others_at c.args.self.now.used c.in-Some.place c.args.number c.in-Some.field-0-2.now c.requires.above c.requires.unique (found c)

pub returns-clause-entries : goal.returns-clause-entries
returns-clause-entries c = keeps_entries_at c.args.self.now.used c.in-Some.place c.args.number c.in-Some.field-0-2.now c.requires.above c.requires.unique (found c)

pub returns-clause-taken : goal.returns-clause-taken
returns-clause-taken c =
    taken_at_place c.args.self.now.used c.in-Some.place c.args.number c.in-Some.field-0-2.now c.requires.above c.requires.unique (found c) c.args.self.now.none_free
