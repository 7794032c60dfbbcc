-- How the code counts lives and their items, and what it says of a life in a direction, as entries of the tallies.
use Rattle.std.specs.Prelude.{Bool, true, false, ℕ, ◌-◌, List, map, slice_index, flat_map}
use Rattle.std.specs.List.{enumerate_from}
use Rattle.amqp_model.specs.Pair.Sent.{Telling}
use Rattle.amqp_model.specs.Stream.Traces.{Noted}
use Rattle.amqp_link.specs.Tallies.{Tallied, begun_on, count_in, numbers_to, two_entries}
use Rattle.amqp_link.specs.declared.lives.Life.{Life}
use Rattle.amqp_link.specs.declared.steps.Direction.{Direction}
use Rattle.amqp_link.specs.declared.steps.Direction.TheVariants.{ToServer, ToClient}

-- how many lives began of each channel from 1 to this one
abbrev pub begun_to : (last : ℕ) → List Noted → List ℕ
begun_to last notes = map (λ channel. begun_on channel notes) (numbers_to last)

-- how many items of each of the first lives of a channel were written down, in the order of the lives
abbrev pub counts_in : (channel lives : ℕ) → List Telling → List ℕ
counts_in channel lives tellings = map (λ life. count_in channel life tellings) (numbers_to lives)

-- the same of each channel, by how many lives of it there are: the first of these numbers is that of channel 1
abbrev pub counts_of : (begun : List ℕ) → List Telling → List (List ℕ)
counts_of begun tellings = map (λ entry. counts_in entry.0 entry.1 tellings) (enumerate_from 1 begun)

-- the entries of the first lives of a channel with these counts, of which the first are those of life 1
abbrev pub tallies_by : (connection channel lives : ℕ) → (client_said server_told server_said client_told : List ℕ)
    → List Tallied
tallies_by connection channel lives client_said server_told server_said client_told =
    flat_map
    (λ life. two_entries connection channel life (slice_index client_said (life - 1))
    (slice_index server_told (life - 1))
    (slice_index server_said (life - 1)) (slice_index client_told (life - 1)))
    (numbers_to lives)

abbrev is_to_server : Direction → Bool
is_to_server ToServer = true
is_to_server ToClient = false

-- a life, a direction, how many items were sent, and on how many the other side acted
abbrev pub tally_view : Life × Direction × ℕ × ℕ → Tallied
tally_view tally =
    record {
      connection = tally.0.connection;
      channel = tally.0.channel;
      life = tally.0.number;
      to_server = is_to_server tally.1;
      sent = tally.2;
      acted = tally.3;
    }
