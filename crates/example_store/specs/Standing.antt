-- The messages that were sent on a channel and wait to be acknowledged, each under its delivery tag.
use Rattle.std.specs.Prelude.{ℕ, ◌≡◌, Bool, if◌then◌else◌, ◌==◌, is_some}
use Rattle.std.specs.Ordering.{nat_cmp}
use Rattle.std.specs.BTreeMap.{get}
use Rattle.example_store.specs.declared.channel.Channel.{Channel}

-- the message under the tag was sent, and waits to be acknowledged
abbrev is_unacked : Channel → ℕ → Bool
is_unacked channel tag = is_some (get nat_cmp channel.unacked tag)

-- the same messages are unacknowledged, but that the tag is now `now`
abbrev pub Awaits : Channel → Channel → ℕ → Bool → Type 0
Awaits old new tag now = (other : ℕ) → is_unacked new other ≡ (if other == tag then now else is_unacked old other)
