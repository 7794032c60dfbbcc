use Rattle.std.proofs.Common.{◌≡◌, slice_get, Some, ap, sym, ◌∙◌}
use Rattle.amqp_channel.proofs.PlaceLemmas.{holds_at, keeps_entries_at, keeps_others_at, kept_at_place, put_at_place, taken_at_place, writes_at}
use Rattle.amqp_channel.proofs.channels.Channels.place_of.Goals as goal

stood : (c : goal.Then-key-number) → slice_get c.args.self.now.used.entries c.args.self.now.last ≡ Some (c.args.number, c.in-Some.field-0-1.now)
stood c =
    ap (λ entries. slice_get entries c.args.self.now.last) (sym c.as_slice.ensures.entries)
    ∙ (sym c.in-Some.ensures.entry ∙ ap (λ key. Some (key, c.in-Some.field-0-1.now)) c.if-key-number.true)

pub returns-then-key-number-clause-holds : goal.returns-then-key-number-clause-holds
returns-then-key-number-clause-holds c = holds_at c.args.self.now.used c.args.self.now.last c.args.number c.in-Some.field-0-1.now c.requires c.as_slice.ensures.unique (stood c)

pub returns-then-key-number-clause-written : goal.returns-then-key-number-clause-written
returns-then-key-number-clause-written c = writes_at c.args.self.now.used c.args.self.now.last c.args.number c.in-Some.field-0-1.now c.requires c.as_slice.ensures.unique (stood c)

pub returns-then-key-number-clause-kept : goal.returns-then-key-number-clause-kept
returns-then-key-number-clause-kept c = kept_at_place c.args.self.now.used c.args.self.now.last c.args.number c.in-Some.field-0-1.now c.requires c.as_slice.ensures.unique (stood c)

pub returns-then-key-number-clause-put : goal.returns-then-key-number-clause-put
returns-then-key-number-clause-put c = put_at_place c.args.self.now.used c.args.self.now.last c.args.number c.in-Some.field-0-1.now c.requires c.as_slice.ensures.unique (stood c)

pub returns-then-key-number-clause-others : goal.returns-then-key-number-clause-others
returns-then-key-number-clause-others c = keeps_others_at c.args.self.now.used c.args.self.now.last c.args.number c.in-Some.field-0-1.now c.requires c.as_slice.ensures.unique (stood c)

pub returns-then-key-number-clause-entries : goal.returns-then-key-number-clause-entries
returns-then-key-number-clause-entries c = keeps_entries_at c.args.self.now.used c.args.self.now.last c.args.number c.in-Some.field-0-1.now c.requires c.as_slice.ensures.unique (stood c)

pub returns-then-key-number-clause-taken : goal.returns-then-key-number-clause-taken
returns-then-key-number-clause-taken c =
    taken_at_place c.args.self.now.used c.args.self.now.last c.args.number c.in-Some.field-0-1.now c.requires c.as_slice.ensures.unique (stood c) c.args.self.now.none_free
