-- The two ends of a channel and what is in flight between them: the cases that can be, and that acts keep to them.
--
-- M* are any messages. All is of one life, but for the open of `opening` and `reopening`, which begins the next: the
-- server is then still in the life before.
--
--   case           client   server   to the server        to the client
--   free           Free     Free     nothing              nothing
--   opening        Opening  Free     Open                 nothing
--   reopening      Opening  Closing  M* CloseOk Open      nothing
--   freed          Free     Closing  M* CloseOk           nothing
--   opened         Opening  Open     nothing              OpenOk M*
--   opened_closed  Opening  Closing  nothing              OpenOk M* Close
--   ready          Open     Open     M*                   M*
--   server_closes  Open     Closing  M*                   M* Close
--   client_closes  Closing  Open     M* Close             M*
--   client_closed  Closing  Free     nothing              M* CloseOk
--   crossing       Closing  Closing  M* Close             M* Close
--   server_heard   Closing  Closing  nothing              M* Close CloseOk
--   client_heard   Closing  Closing  M* Close CloseOk     nothing
--   both_heard     Closing  Closing  CloseOk              CloseOk
--
-- An end that awaits a flow-ok has at most one flow or its flow-ok in flight, and else none.
use Rattle.std.proofs.Common.{Bool, true, false, ℕ, suc, ◌+◌, ◌≤◌, List, [], ◌∷◌, ◌++◌, Some}
use Rattle.std.proofs.Common.{None, arith}
use Rattle.amqp_model.specs.Wire.Frame.{Frame}
use Rattle.amqp_model.specs.Wire.Notes.{Role, Client, Server, Kind, Open, OpenOk, Close, CloseOk, Flow, FlowOk, Other}
use Rattle.amqp_model.specs.History.States.{State, Free, Opening, Closing}
use Rattle.amqp_model.specs.Pair.Carried.{NoteInLife, At}
use Rattle.amqp_model.proofs.Ends.{Standing, Is, a_flow, a_flow_ok, an_other, IsReply, to_open, to_close, to_flow}
use Rattle.amqp_model.proofs.Ends.{Asking, opens, closes, flows, sends, Taking, accepts, begins, ends, pauses, hears}
use Rattle.amqp_model.proofs.Ends.{acts, crosses, frees, drops}

-- messages of a life, so many flows and flow-oks among them, and then a tail
pub data Row (n : ℕ) (tail : List NoteInLife) : ℕ → ℕ → List NoteInLife → Type 0 where
  done : Row n tail 0 0 tail
  with_flow : {i j : ℕ} {row : List NoteInLife} {active : Bool} {frame : Frame} → Row n tail i j row
      → Row n tail (suc i) j (At (Flow active) n frame ∷ row)
  with_flow_ok : {i j : ℕ} {row : List NoteInLife} {active : Bool} {frame : Frame} → Row n tail i j row
      → Row n tail i (suc j) (At (FlowOk active) n frame ∷ row)
  with_other : {i j : ℕ} {row : List NoteInLife} {begins_content : Bool} {frame : Frame} → Row n tail i j row
      → Row n tail i j (At (Other begins_content) n frame ∷ row)

pub row_more : {n : ℕ} {tail : List NoteInLife} {i j : ℕ} {row : List NoteInLife} (more : List NoteInLife)
    → Row n tail i j row → Row n (tail ++ more) i j (row ++ more)
row_more more done = done
row_more more (with_flow row) = with_flow (row_more more row)
row_more more (with_flow_ok row) = with_flow_ok (row_more more row)
row_more more (with_other row) = with_other (row_more more row)

pub row_flow : {n i j : ℕ} {row : List NoteInLife} (active : Bool) (frame : Frame) → Row n [] i j row
    → Row n [] (suc i) j (row ++ At (Flow active) n frame ∷ [])
row_flow active frame done = with_flow done
row_flow active frame (with_flow row) = with_flow (row_flow active frame row)
row_flow active frame (with_flow_ok row) = with_flow_ok (row_flow active frame row)
row_flow active frame (with_other row) = with_other (row_flow active frame row)

pub row_flow_ok : {n i j : ℕ} {row : List NoteInLife} (active : Bool) (frame : Frame) → Row n [] i j row
    → Row n [] i (suc j) (row ++ At (FlowOk active) n frame ∷ [])
row_flow_ok active frame done = with_flow_ok done
row_flow_ok active frame (with_flow row) = with_flow (row_flow_ok active frame row)
row_flow_ok active frame (with_flow_ok row) = with_flow_ok (row_flow_ok active frame row)
row_flow_ok active frame (with_other row) = with_other (row_flow_ok active frame row)

pub row_other : {n i j : ℕ} {row : List NoteInLife} (begins_content : Bool) (frame : Frame) → Row n [] i j row
    → Row n [] i j (row ++ At (Other begins_content) n frame ∷ [])
row_other begins_content frame done = with_other done
row_other begins_content frame (with_flow row) = with_flow (row_other begins_content frame row)
row_other begins_content frame (with_flow_ok row) = with_flow_ok (row_other begins_content frame row)
row_other begins_content frame (with_other row) = with_other (row_other begins_content frame row)

-- how many flows and flow-oks an end that awaits a flow-ok, or none, can have in flight
abbrev pub most : Bool → ℕ
most false = 0
most true = 1

-- the client, the server, what is in flight to the server, and what to the client; of the counts i and k are
-- flows and j and l flow-oks, i and j to the server
pub data Joint : Standing → Standing → List NoteInLife → List NoteInLife → Type 0 where
  free : {n : ℕ} {a b : Bool} → Joint (Is Free n a) (Is Free n b) [] []
  opening : {n : ℕ} {b : Bool} {open_frame : Frame}
      → Joint (Is Opening (suc n) false) (Is Free n b) (At Open (suc n) open_frame ∷ []) []
  reopening : {n i j : ℕ} {b : Bool} {q : List NoteInLife} {ok_frame open_frame : Frame}
      → Row n (At CloseOk n ok_frame ∷ At Open (suc n) open_frame ∷ []) i j q
      → Joint (Is Opening (suc n) false) (Is Closing n b) q []
  freed : {n i j : ℕ} {a b : Bool} {q : List NoteInLife} {ok_frame : Frame}
      → Row n (At CloseOk n ok_frame ∷ []) i j q → Joint (Is Free n a) (Is Closing n b) q []
  opened : {n k : ℕ} {b : Bool} {r : List NoteInLife} {ok_frame : Frame} → Row n [] k 0 r → k ≤ most b
      → Joint (Is Opening n false) (Is State.Open n b) [] (At OpenOk n ok_frame ∷ r)
  opened_closed : {n k : ℕ} {b : Bool} {r : List NoteInLife} {ok_frame close_frame : Frame}
      → Row n (At Close n close_frame ∷ []) k 0 r → k ≤ most b
      → Joint (Is Opening n false) (Is Closing n b) [] (At OpenOk n ok_frame ∷ r)
  ready : {n i j k l : ℕ} {a b : Bool} {q r : List NoteInLife} → Row n [] i j q → Row n [] k l r
      → i + l ≤ most a → k + j ≤ most b → Joint (Is State.Open n a) (Is State.Open n b) q r
  server_closes : {n i j k l : ℕ} {a b : Bool} {q r : List NoteInLife} {close_frame : Frame} → Row n [] i j q
      → Row n (At Close n close_frame ∷ []) k l r → i + l ≤ most a → k + j ≤ most b
      → Joint (Is State.Open n a) (Is Closing n b) q r
  client_closes : {n i j k l : ℕ} {a b : Bool} {q r : List NoteInLife} {close_frame : Frame}
      → Row n (At Close n close_frame ∷ []) i j q → Row n [] k l r → i + l ≤ most a → k + j ≤ most b
      → Joint (Is Closing n a) (Is State.Open n b) q r
  client_closed : {n k l : ℕ} {a b : Bool} {r : List NoteInLife} {ok_frame : Frame}
      → Row n (At CloseOk n ok_frame ∷ []) k l r → Joint (Is Closing n a) (Is Free n b) [] r
  crossing : {n i j k l : ℕ} {a b : Bool} {q r : List NoteInLife} {close_frame other_frame : Frame}
      → Row n (At Close n close_frame ∷ []) i j q → Row n (At Close n other_frame ∷ []) k l r
      → Joint (Is Closing n a) (Is Closing n b) q r
  server_heard : {n k l : ℕ} {a b : Bool} {r : List NoteInLife} {close_frame ok_frame : Frame}
      → Row n (At Close n close_frame ∷ At CloseOk n ok_frame ∷ []) k l r
      → Joint (Is Closing n a) (Is Closing n b) [] r
  client_heard : {n i j : ℕ} {a b : Bool} {q : List NoteInLife} {close_frame ok_frame : Frame}
      → Row n (At Close n close_frame ∷ At CloseOk n ok_frame ∷ []) i j q
      → Joint (Is Closing n a) (Is Closing n b) q []
  both_heard : {n : ℕ} {a b : Bool} {ok_frame other_frame : Frame}
      → Joint (Is Closing n a) (Is Closing n b) (At CloseOk n ok_frame ∷ []) (At CloseOk n other_frame ∷ [])

-- the same, as one end sees it: itself, the other, what is in flight to the other, and what comes
pub data JointAt : Role → Standing → Standing → List NoteInLife → List NoteInLife → Type 0 where
  at_client : {client server : Standing} {q r : List NoteInLife} → Joint client server q r
      → JointAt Client client server q r
  at_server : {client server : Standing} {q r : List NoteInLife} → Joint client server q r
      → JointAt Server server client r q

-- what an end asks keeps to the cases
client_asks : {client server : Standing} {q r : List NoteInLife} {kind : Kind} {word : State} {n : ℕ} {a : Bool}
    → Asking Client client kind (Is word n a) → Joint client server q r → (frame : Frame)
    → Joint (Is word n a) server (q ++ At kind n frame ∷ []) r
client_asks opens free frame = opening
client_asks opens (freed q) frame = reopening (row_more _ q)
client_asks closes (ready q r le me) frame = client_closes (row_more _ q) r le me
client_asks closes (server_closes q r le me) frame = crossing (row_more _ q) r
client_asks flows (ready q r le me) frame = ready (row_flow _ _ q) r (omega arith) me
client_asks flows (server_closes q r le me) frame = server_closes (row_flow _ _ q) r (omega arith) me
client_asks sends (ready q r le me) frame = ready (row_other _ _ q) r le me
client_asks sends (server_closes q r le me) frame = server_closes (row_other _ _ q) r le me

server_asks : {client server : Standing} {q r : List NoteInLife} {kind : Kind} {word : State} {n : ℕ} {a : Bool}
    → Asking Server server kind (Is word n a) → Joint client server q r → (frame : Frame)
    → Joint client (Is word n a) q (r ++ At kind n frame ∷ [])
server_asks closes (opened r le) frame = opened_closed (row_more _ r) le
server_asks closes (ready q r le me) frame = server_closes q (row_more _ r) le me
server_asks closes (client_closes q r le me) frame = crossing q (row_more _ r)
server_asks flows (opened r le) frame = opened (row_flow _ _ r) (omega arith)
server_asks flows (ready q r le me) frame = ready q (row_flow _ _ r) le (omega arith)
server_asks flows (client_closes q r le me) frame = client_closes q (row_flow _ _ r) le (omega arith)
server_asks sends (opened r le) frame = opened (row_other _ _ r) le
server_asks sends (ready q r le me) frame = ready q (row_other _ _ r) le me
server_asks sends (client_closes q r le me) frame = client_closes q (row_other _ _ r) le me

pub joint_ask : {role : Role} {mine theirs : Standing} {q r : List NoteInLife} {kind : Kind} {word : State} {n : ℕ}
    {a : Bool} → JointAt role mine theirs q r → Asking role mine kind (Is word n a) → (frame : Frame)
    → JointAt role (Is word n a) theirs (q ++ At kind n frame ∷ []) r
joint_ask (at_client joint) asking frame = at_client (client_asks asking joint frame)
joint_ask (at_server joint) asking frame = at_server (server_asks asking joint frame)

-- what an end does with the next note that comes, which is of the life that the end then counts
pub data Taken (role : Role) (mine theirs : Standing) (q r : List NoteInLife) (kind : Kind) (n : ℕ) : Type 0 where
  quietly : {word : State} {a : Bool} → Taking role mine kind None (Is word n a)
      → JointAt role (Is word n a) theirs q r → Taken role mine theirs q r kind n
  answering : {word : State} {a : Bool} {reply : Kind} → Taking role mine kind (Some reply) (Is word n a)
      → IsReply reply word
      → ((frame : Frame) → JointAt role (Is word n a) theirs (q ++ At reply n frame ∷ []) r)
      → Taken role mine theirs q r kind n

-- what the client takes
client_takes : {client server : Standing} {q r : List NoteInLife} {kind : Kind} {n : ℕ} {frame : Frame}
    → Joint client server q (At kind n frame ∷ r) → Taken Client client server q r kind n
client_takes (opened r le) = quietly begins (at_client (ready done r (omega arith) (omega arith)))
client_takes (opened_closed r le) = quietly begins (at_client (server_closes done r (omega arith) (omega arith)))
client_takes (ready q (with_other r) le me) = quietly acts (at_client (ready q r le me))
client_takes (ready q (with_flow r) le me) =
    answering pauses to_flow (λ frame. at_client (ready (row_flow_ok _ _ q) r le (omega arith)))
client_takes (ready {a = true} q (with_flow_ok r) le me) = quietly hears (at_client (ready q r (omega arith) me))
client_takes (ready {a = false} q (with_flow_ok r) le me) = absurd (omega arith)
client_takes (server_closes q done le me) = answering ends to_close (λ frame. at_client (freed (row_more _ q)))
client_takes (server_closes q (with_other r) le me) = quietly acts (at_client (server_closes q r le me))
client_takes (server_closes q (with_flow r) le me) =
    answering pauses to_flow (λ frame. at_client (server_closes (row_flow_ok _ _ q) r le (omega arith)))
client_takes (server_closes {a = true} q (with_flow_ok r) le me) =
    quietly hears (at_client (server_closes q r (omega arith) me))
client_takes (server_closes {a = false} q (with_flow_ok r) le me) = absurd (omega arith)
client_takes (client_closes q (with_other r) le me) = quietly (drops an_other) (at_client (client_closes q r le me))
client_takes (client_closes q (with_flow r) le me) =
    quietly (drops a_flow) (at_client (client_closes q r le (omega arith)))
client_takes (client_closes q (with_flow_ok r) le me) =
    quietly (drops a_flow_ok) (at_client (client_closes q r (omega arith) me))
client_takes (client_closed done) = quietly frees (at_client free)
client_takes (client_closed (with_other row)) = quietly (drops an_other) (at_client (client_closed row))
client_takes (client_closed (with_flow row)) = quietly (drops a_flow) (at_client (client_closed row))
client_takes (client_closed (with_flow_ok row)) = quietly (drops a_flow_ok) (at_client (client_closed row))
client_takes (crossing q done) = answering crosses to_close (λ frame. at_client (client_heard (row_more _ q)))
client_takes (crossing q (with_other row)) = quietly (drops an_other) (at_client (crossing q row))
client_takes (crossing q (with_flow row)) = quietly (drops a_flow) (at_client (crossing q row))
client_takes (crossing q (with_flow_ok row)) = quietly (drops a_flow_ok) (at_client (crossing q row))
client_takes (server_heard done) = answering crosses to_close (λ frame. at_client both_heard)
client_takes (server_heard (with_other row)) = quietly (drops an_other) (at_client (server_heard row))
client_takes (server_heard (with_flow row)) = quietly (drops a_flow) (at_client (server_heard row))
client_takes (server_heard (with_flow_ok row)) = quietly (drops a_flow_ok) (at_client (server_heard row))
client_takes both_heard = quietly frees (at_client (freed done))

-- what the server takes
server_takes : {client server : Standing} {q r : List NoteInLife} {kind : Kind} {n : ℕ} {frame : Frame}
    → Joint client server (At kind n frame ∷ q) r → Taken Server server client r q kind n
server_takes opening = answering accepts to_open (λ frame. at_server (opened done (omega arith)))
server_takes (reopening done) = quietly frees (at_server opening)
server_takes (reopening (with_other row)) = quietly (drops an_other) (at_server (reopening row))
server_takes (reopening (with_flow row)) = quietly (drops a_flow) (at_server (reopening row))
server_takes (reopening (with_flow_ok row)) = quietly (drops a_flow_ok) (at_server (reopening row))
server_takes (freed done) = quietly frees (at_server free)
server_takes (freed (with_other row)) = quietly (drops an_other) (at_server (freed row))
server_takes (freed (with_flow row)) = quietly (drops a_flow) (at_server (freed row))
server_takes (freed (with_flow_ok row)) = quietly (drops a_flow_ok) (at_server (freed row))
server_takes (ready (with_other q) r le me) = quietly acts (at_server (ready q r le me))
server_takes (ready (with_flow q) r le me) =
    answering pauses to_flow (λ frame. at_server (ready q (row_flow_ok _ _ r) (omega arith) me))
server_takes (ready {b = true} (with_flow_ok q) r le me) = quietly hears (at_server (ready q r le (omega arith)))
server_takes (ready {b = false} (with_flow_ok q) r le me) = absurd (omega arith)
server_takes (client_closes done r le me) = answering ends to_close (λ frame. at_server (client_closed (row_more _ r)))
server_takes (client_closes (with_other q) r le me) = quietly acts (at_server (client_closes q r le me))
server_takes (client_closes (with_flow q) r le me) =
    answering pauses to_flow (λ frame. at_server (client_closes q (row_flow_ok _ _ r) (omega arith) me))
server_takes (client_closes {b = true} (with_flow_ok q) r le me) =
    quietly hears (at_server (client_closes q r le (omega arith)))
server_takes (client_closes {b = false} (with_flow_ok q) r le me) = absurd (omega arith)
server_takes (server_closes (with_other q) r le me) = quietly (drops an_other) (at_server (server_closes q r le me))
server_takes (server_closes (with_flow q) r le me) =
    quietly (drops a_flow) (at_server (server_closes q r (omega arith) me))
server_takes (server_closes (with_flow_ok q) r le me) =
    quietly (drops a_flow_ok) (at_server (server_closes q r le (omega arith)))
server_takes (crossing done r) = answering crosses to_close (λ frame. at_server (server_heard (row_more _ r)))
server_takes (crossing (with_other row) r) = quietly (drops an_other) (at_server (crossing row r))
server_takes (crossing (with_flow row) r) = quietly (drops a_flow) (at_server (crossing row r))
server_takes (crossing (with_flow_ok row) r) = quietly (drops a_flow_ok) (at_server (crossing row r))
server_takes (client_heard done) = answering crosses to_close (λ frame. at_server both_heard)
server_takes (client_heard (with_other row)) = quietly (drops an_other) (at_server (client_heard row))
server_takes (client_heard (with_flow row)) = quietly (drops a_flow) (at_server (client_heard row))
server_takes (client_heard (with_flow_ok row)) = quietly (drops a_flow_ok) (at_server (client_heard row))
server_takes both_heard = quietly frees (at_server (client_closed done))

pub joint_take : {role : Role} {mine theirs : Standing} {q r : List NoteInLife} {kind : Kind} {n : ℕ} {frame : Frame}
    → JointAt role mine theirs q (At kind n frame ∷ r) → Taken role mine theirs q r kind n
joint_take (at_client joint) = client_takes joint
joint_take (at_server joint) = server_takes joint
