-- What holds of rows, outputs and the order in which frames leave: the statements that the public laws carry.
use Rattle.std.specs.Prelude.{◌≡◌, ℕ, ◌<◌, ◌≤◌, ◌↔◌, true, List, [], ◌∷◌, ◌++◌}
use Rattle.std.specs.Prelude.{length, take, drop, All}
use Rattle.amqp_frame.specs.Frame.{Frame, Fits}
use Rattle.amqp_frame.specs.Splitting.{stream, AllFit}
use Rattle.amqp_model.specs.Output.Arrangement.{is_leaving, Queue, LeavingFrames, is_in, queued, on, steps}
use Rattle.amqp_model.specs.Output.Arrangement.{last_after_all, IsArranged, Arranges, IsChannel, HasChannel, Gains}
use Rattle.amqp_model.specs.Output.Arrangement.{placed, arranged}
use Rattle.amqp_model.specs.Output.ArrangementRules.{counted, FollowsRules, ComesNoLater}
use Rattle.amqp_model.specs.Output.Outputs.{Output, output_octets, after_put, after_puts, Writes, after_writing}
use Rattle.amqp_model.specs.Output.Departures.{KeepsOrder, IsOutputOf, PutInOrder, LeavesAfter, LeavesLast, PutAs}

-- as many counts as there are steps lead from one channel to another
abbrev pub StepsLead : Type 0
StepsLead = (from to : ℕ) → IsChannel from → 0 < to → IsChannel to → counted (steps from to) from ≡ to

-- No fewer counts than there are steps lead from one channel to another, but for none at all.
abbrev pub NoFewerStepsLead : Type 0
NoFewerStepsLead =
    (n from to : ℕ) → IsChannel from → 0 < to → IsChannel to → 0 < n
    → counted n from ≡ to → steps from to ≤ n

-- the fewest steps lead to the lowest channel above LAST, or else to the lowest
abbrev pub LowestAboveComesFirst : Type 0
LowestAboveComesFirst =
    (last a b : ℕ) → IsChannel last → 0 < a → IsChannel a → 0 < b → IsChannel b
    → (steps last a ≤ steps last b) ↔ ComesNoLater last a b

-- a row is arranged exactly when it follows the rules
abbrev pub ArrangedByRules : Type 0
ArrangedByRules =
    (last : ℕ) (row : List Frame) → IsChannel last → All HasChannel row
    → IsArranged last row ↔ FollowsRules last row

-- for the frames that wait there is exactly one row
abbrev pub OneRow : Type 0
OneRow =
    (last : ℕ) (waiting row other : List Frame) → IsChannel last → All HasChannel waiting
    → Arranges last waiting row → Arranges last waiting other → row ≡ other

-- The row that the puts make is the one of the frames that wait.
abbrev pub PutsMakeRow : Type 0
PutsMakeRow =
    (last : ℕ) (waiting : List Frame) → IsChannel last → All HasChannel waiting
    → Arranges last waiting (arranged last waiting)

-- a put into the row of the frames that wait makes the row of those and the new one
abbrev pub PutArranges : Type 0
PutArranges =
    (last : ℕ) (f : Frame) (waiting row : List Frame)
    → IsChannel last → HasChannel f → All HasChannel waiting → Arranges last waiting row
    → Arranges last (waiting ++ f ∷ []) (placed last f row)

-- a put moves no other frame
abbrev pub PutMovesNone : Type 0
PutMovesNone = (last : ℕ) (f : Frame) (row : List Frame) → IsArranged last row → Gains f row (placed last f row)

-- After a put each channel above 0 has its frames as before, and after them the new one.
abbrev pub PutExtendsChannels : Type 0
PutExtendsChannels =
    (last : ℕ) (f : Frame) (row : List Frame) (channel : ℕ) → IsArranged last row → 0 < channel
    → on channel (placed last f row) ≡ on channel row ++ on channel (f ∷ [])

-- connection.close and close-ok are put after every frame that waits
abbrev pub LeavingIsPutLast : Type 0
LeavingIsPutLast =
    (last : ℕ) (f : Frame) (row : List Frame) → is_leaving f ≡ true → All HasChannel row
    → placed last f row ≡ row ++ f ∷ []

-- the place of a frame is found after the last one of its queue
abbrev pub PlaceIsAfterItsQueue : Type 0
PlaceIsAfterItsQueue =
    (last : ℕ) (f g : Frame) (prefix back : List Frame) (queue : Queue)
    → IsArranged last (prefix ++ g ∷ back) → is_in queue f ≡ true → is_in queue g ≡ true
    → placed last f (prefix ++ g ∷ back)
    ≡ prefix ++ g ∷ placed (last_after_all last (prefix ++ g ∷ [])) f back

-- a put leaves what is begun, and LAST
abbrev pub PutLeavesBegun : Type 0
PutLeavesBegun = (f : Frame) (o : Output) → ((after_put f o).ahead ≡ o.ahead) × ((after_put f o).last ≡ o.last)

-- As many octets of an output can be written as it has.
abbrev pub WriteLeaves : Type 0
WriteLeaves = (n : ℕ) (o : Output) → n ≤ length (output_octets o) → Writes n o (after_writing n o)

-- There is exactly one output that is left after a write.
abbrev pub OneIsLeft : Type 0
OneIsLeft = (n : ℕ) (old new other : Output) → Writes n old new → Writes n old other → new ≡ other

-- Where nothing is written nothing changes.
abbrev pub NothingWritten : Type 0
NothingWritten = (old new : Output) → Writes 0 old new → new ≡ old

-- the octets written and those of the output left are those of the output before
abbrev pub WrittenThenLeft : Type 0
WrittenThenLeft =
    (n : ℕ) (old new : Output) → Writes n old new
    → take n (output_octets old) ++ output_octets new ≡ output_octets old

-- what is left ahead is what is left of the frames begun
abbrev pub AheadIsOfBegun : Type 0
AheadIsOfBegun =
    (n : ℕ) (old new : Output) (w : Writes n old new) → new.ahead ≡ drop n (old.ahead ++ stream w.begun)

-- the row that is left is arranged from the new LAST
abbrev pub LeftIsArranged : Type 0
LeftIsArranged =
    (n : ℕ) (old new : Output) → Writes n old new → IsArranged old.last old.row → IsArranged new.last new.row

-- an end begins with the protocol header or with nothing
abbrev pub OutputBegins : Type 0
OutputBegins =
    (opening : List ℕ) → IsOutputOf opening [] [] (record { ahead = opening; begun_on = 0; last = 0; row = [] })

-- After a put an output is that of the frames put before, and of this one after them.
abbrev pub OutputAfterPut : Type 0
OutputAfterPut =
    (opening : List ℕ) (put : List Frame) (written : List ℕ) (o : Output) (f : Frame)
    → IsOutputOf opening put written o → Fits f → IsOutputOf opening (put ++ f ∷ []) written (after_put f o)

-- After several puts an output is that of the frames put before, and of these after them.
abbrev pub OutputAfterPuts : Type 0
OutputAfterPuts =
    (opening : List ℕ) (frames put : List Frame) (written : List ℕ) (o : Output)
    → IsOutputOf opening put written o → AllFit frames
    → IsOutputOf opening (put ++ frames) written (after_puts frames o)

-- After a write an output is that of the same frames, and the octets written have left it.
abbrev pub OutputAfterWrite : Type 0
OutputAfterWrite =
    (opening : List ℕ) (put : List Frame) (written : List ℕ) (n : ℕ) (old new : Output)
    → IsOutputOf opening put written old → Writes n old new
    → IsOutputOf opening put (written ++ take n (output_octets old)) new

-- The row of an output of frames that were put follows the rules.
abbrev pub OutputFollowsRules : Type 0
OutputFollowsRules =
    (opening : List ℕ) (put : List Frame) (written : List ℕ) (o : Output) → IsOutputOf opening put written o
    → FollowsRules o.last o.row

-- what an end wrote and its output are the frames that it put, in an order that keeps each queue and each close
abbrev pub AllIsInOrder : Type 0
AllIsInOrder =
    (opening : List ℕ) (put : List Frame) (written : List ℕ) (o : Output)
    → IsOutputOf opening put written o → PutInOrder opening (written ++ output_octets o) put

-- of each queue, what was put is begun, or it waits
abbrev pub WaitsWhatIsNotBegun : Type 0
WaitsWhatIsNotBegun =
    (opening : List ℕ) (put : List Frame) (written : List ℕ) (o : Output) (out : IsOutputOf opening put written o)
    (queue : Queue)
    → queued queue put ≡ queued queue out.begun ++ queued queue o.row

-- what leaves after a connection.close or close-ok was put after it
abbrev pub ClosesStandAfter : Type 0
ClosesStandAfter =
    (put departing : List Frame) → KeepsOrder put departing
    → (earlier later before after : List Frame) (f g : Frame)
    → put ≡ earlier ++ f ∷ later → departing ≡ before ++ g ∷ after
    → is_leaving f ≡ true → is_leaving g ≡ true
    → length (queued LeavingFrames earlier) ≡ length (queued LeavingFrames before)
    → (f ≡ g) × ((queue : Queue) → LeavesAfter earlier later before after queue)

-- where an end puts only connection.close and close-ok after one of these, nothing else leaves after one
abbrev pub NothingLeavesAfter : Type 0
NothingLeavesAfter =
    (put departing : List Frame) → KeepsOrder put departing → LeavesLast put → LeavesLast departing

-- Where an end puts only closes of the connection after one of these, channel 0 has its frames in order too.
abbrev pub AllIsPutAs : Type 0
AllIsPutAs =
    (opening octets : List ℕ) (put : List Frame) → PutInOrder opening octets put → LeavesLast put
    → PutAs opening octets put
