-- How much was sent and acted on in each life of each channel of a connection, one entry a life and a direction.
--
-- A life of a channel begins where the client puts an open there, so a client's notes say how many lives began. The
-- items of a life are those that the ends wrote down with its channel and its number. What was written down with the
-- number 0, or with that of a life that did not begin, has no entry.
use Rattle.std.specs.Prelude.{Bool, true, false, cond, ◌&&◌, ◌==◌, ℕ, max, List, [], ◌∷◌, length, flat_map, count_by}
use Rattle.std.specs.List.{range_with_len}
use Rattle.amqp_model.specs.Pair.Sent.{Telling, items_of}
use Rattle.amqp_model.specs.Stream.Traces.{Noted, Direction, IsPut, IsTaken, Word, Open}

abbrev is_put : Direction → Bool
is_put IsPut = true
is_put IsTaken = false

abbrev pub is_open_word : Word → Bool
is_open_word Open = true
is_open_word word = false

-- the note of an open that was put: a life begins, as a client notes it
abbrev pub begins : Noted → Bool
begins note = is_put note.direction && is_open_word note.word

-- a life of this channel begins
abbrev pub begins_on : (channel : ℕ) → Noted → Bool
begins_on channel note = begins note && (note.channel == channel)

-- how many lives of the channel began
abbrev pub begun_on : (channel : ℕ) → List Noted → ℕ
begun_on channel notes = count_by (begins_on channel) notes

-- the greatest channel of which a life began, or 0
abbrev pub last_begun : List Noted → ℕ
last_begun [] = 0
last_begun (note ∷ later) = cond (begins note) (max note.channel (last_begun later)) (last_begun later)

-- how many items of a life were written down
abbrev pub count_in : (channel life : ℕ) → List Telling → ℕ
count_in channel life tellings = length (items_of channel life tellings)

-- the numbers from 1 to this one, in order
abbrev pub numbers_to : ℕ → List ℕ
numbers_to last = range_with_len 1 last

-- of a life and a direction, how many items the side that writes sent, and on how many the side that reads acted
pub record Tallied : Type 0 where
  pub connection : ℕ
  pub channel : ℕ
  pub life : ℕ
  pub to_server : Bool
  pub sent : ℕ
  pub acted : ℕ

-- the two entries of a life, to the server first, with these counts
abbrev pub two_entries : (connection channel life : ℕ) → (client_said server_told server_said client_told : ℕ)
    → List Tallied
two_entries connection channel life client_said server_told server_said client_told =
    record {
      connection = connection;
      channel = channel;
      life = life;
      to_server = true;
      sent = client_said;
      acted = server_told;
    }
    ∷ record {
      connection = connection;
      channel = channel;
      life = life;
      to_server = false;
      sent = server_said;
      acted = client_told;
    }
    ∷ []

-- the entries of a life: to the server the client sent what it said, and the server acted on what it was told; to the
-- client it is the other way round
abbrev pub tallies_in : (connection channel life : ℕ) →
    (client_said server_told server_said client_told : List Telling) → List Tallied
tallies_in connection channel life client_said server_told server_said client_told =
    two_entries connection channel life (count_in channel life client_said) (count_in channel life server_told)
    (count_in channel life server_said) (count_in channel life client_told)

-- the entries of the first lives of a channel, in the order of the lives
abbrev pub tallies_on : (connection channel lives : ℕ)
    → (client_said server_told server_said client_told : List Telling) → List Tallied
tallies_on connection channel lives client_said server_told server_said client_told =
    flat_map (λ life. tallies_in connection channel life client_said server_told server_said client_told)
    (numbers_to lives)

-- the entries of the channels from 1 to this one, in order: of each the lives that began, as the client noted
abbrev pub tallies_to :
    (last connection : ℕ) → List Noted → (client_said server_told server_said client_told : List Telling) → List Tallied
tallies_to last connection notes client_said server_told server_said client_told =
    flat_map (λ channel. tallies_on connection channel
    (begun_on channel notes) client_said server_told server_said client_told)
    (numbers_to last)

-- The entries of a connection: each life that began stands there once in each direction, in the order of the channels
-- and of the lives, to the server first.
abbrev pub tallies_of : (connection : ℕ) → List Noted →
    (client_said server_told server_said client_told : List Telling) → List Tallied
tallies_of connection notes client_said server_told server_said client_told =
    tallies_to (last_begun notes) connection notes client_said server_told server_said client_told
