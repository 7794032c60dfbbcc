-- What octets carry of the channels from one end to the other.
use Rattle.std.proofs.Common.{◌≡◌, ◌≢◌, ℕ, suc, ◌+◌, Bool, true, false, cond, ◌==◌, List, []}
use Rattle.std.proofs.Common.{◌∷◌, ◌++◌, map, length, get_or, refl, sym, ap, ◌∙◌, subst, append_assoc}
use Rattle.std.proofs.Common.{append-nil, length-append, arith}
use Rattle.std.proofs.lemmas.Bool.{eq-eqb, eqb-true, ne_eqb, and_parts, cond-true, cond-false}
use Rattle.std.proofs.lemmas.List.{map-append, append_cancel_left}
use Rattle.std.proofs.lemmas.List.Elements.{filter-append}
use Rattle.amqp_frame.specs.declared.frames.FrameKind.{FrameKind}
use Rattle.amqp_frame.specs.declared.frames.FrameKind.TheVariants.{Method, Header, Body, Heartbeat}
use Rattle.amqp_frame.specs.Frame.{Frame, octets, Fits, type_octet}
use Rattle.amqp_frame.specs.Splitting.{stream, AllFit}
use Rattle.amqp_frame.proofs.FrameLemmas.{length-octets, type-at_start, one_frame}
use Rattle.amqp_model.specs.Wire.Notes.{Role, Client, Server}
use Rattle.amqp_model.specs.Pair.Carried.{put_by, taken_by}
use Rattle.amqp_model.specs.Pair.Runs.{IsNext}
use Rattle.amqp_model.specs.Output.Prefixes.{IsPrefixOf}
use Rattle.amqp_model.specs.Output.Arrangement.{is_leaving, on}
use Rattle.amqp_model.specs.Output.Departures.{PutAs}
use Rattle.amqp_model.specs.Wire.Readings.{reading}
use Rattle.amqp_model.specs.History.Histories.{Put, Took, History, PutHere, TookHere, LeftHere, closes_connection}
use Rattle.amqp_model.specs.History.Histories.{notes, entries_on}
use Rattle.amqp_model.specs.Laws.EndLaws.{notes_on}
use Rattle.amqp_model.specs.Stream.Octets.{frames_taken, frames_put, opening_read, FedAs}
use Rattle.amqp_model.specs.Pair.Pairs.{ComesNext}
use Rattle.amqp_model.specs.Laws.CarryingLaws.{as_carried, frame_carried, FramesAreOfChannel, NotesAreOfFrames}
use Rattle.amqp_model.specs.Laws.CarryingLaws.{OpeningsMeet, Carries, TakesPrefixOnEach, CompletedComesNext}

-- one more frame, on its channel or on another
on-more : (channel : ℕ) (frames : List Frame) (frame : Frame) → on channel (frames ++ frame ∷ [])
    ≡ on channel frames ++ cond (frame.channel == channel) (frame ∷ []) []
on-more channel frames frame = filter-append (λ f. f.channel == channel) frames (frame ∷ [])

puts-carried : (channel : ℕ) (history : History)
    → put_by (notes_on channel history) ≡ map as_carried (on channel (frames_put history))
puts-carried channel [] = refl
puts-carried channel (Took frame ∷ before) = cases (frame.channel == channel) ∙ puts-carried channel before
  where
    cases : (b : Bool)
        → put_by (notes (cond b (TookHere (reading frame) frame ∷ []) [] ++ entries_on channel before))
        ≡ put_by (notes_on channel before)
    cases true = refl
    cases false = refl
puts-carried channel (Put frame ∷ before) =
    cases (frame.channel == channel) (closes_connection frame) (puts-carried channel before)
    ∙ (sym (map-append as_carried (on channel (frames_put before))
    (cond (frame.channel == channel) (frame ∷ []) []))
    ∙ ap (map as_carried) (sym (on-more channel (frames_put before) frame)))
  where
    cases : (b c : Bool) → put_by (notes_on channel before) ≡ map as_carried (on channel (frames_put before))
        → put_by (notes (cond b (PutHere (reading frame) frame ∷ []) (cond c (LeftHere ∷ []) [])
        ++ entries_on channel before)) ≡ map as_carried (on channel (frames_put before)) ++ map as_carried
        (cond b (frame ∷ []) [])
    cases true c e = ap (λ l. l ++ as_carried frame ∷ []) e
    cases false true e = e ∙ sym (append-nil _)
    cases false false e = e ∙ sym (append-nil _)

takes-carried : (channel : ℕ) (history : History) → taken_by (notes_on channel history)
    ≡ map as_carried (on channel (frames_taken history))
takes-carried channel [] = refl
takes-carried channel (Took frame ∷ before) =
    cases (frame.channel == channel) (takes-carried channel before)
    ∙ (sym (map-append as_carried (on channel (frames_taken before))
    (cond (frame.channel == channel) (frame ∷ []) []))
    ∙ ap (map as_carried) (sym (on-more channel (frames_taken before) frame)))
  where
    cases : (b : Bool) → taken_by (notes_on channel before) ≡ map as_carried (on channel (frames_taken before))
        → taken_by (notes (cond b (TookHere (reading frame) frame ∷ []) [] ++ entries_on channel before))
        ≡ map as_carried (on channel (frames_taken before)) ++ map as_carried (cond b (frame ∷ []) [])
    cases true e = ap (λ l. l ++ as_carried frame ∷ []) e
    cases false e = e ∙ sym (append-nil _)
takes-carried channel (Put frame ∷ before) =
    cases (frame.channel == channel) (closes_connection frame) ∙ takes-carried channel before
  where
    cases : (b c : Bool)
        → taken_by
        (notes (cond b (PutHere (reading frame) frame ∷ []) (cond c (LeftHere ∷ []) [])
        ++ entries_on channel before)) ≡ taken_by (notes_on channel before)
    cases true c = refl
    cases false true = refl
    cases false false = refl

pub notes-of-frames : NotesAreOfFrames
notes-of-frames channel history = (puts-carried channel history, takes-carried channel history)

-- the frames of what is carried are the frames
frames-again : (frames : List Frame) → frames ≡ map frame_carried (map as_carried frames)
frames-again [] = refl
frames-again (f ∷ frames) = ap (λ l. f ∷ l) (frames-again frames)

pub frames-of-channel : FramesAreOfChannel
frames-of-channel channel history = (
  frames-again (on channel (frames_put history)) ∙ ap (map frame_carried) (sym (puts-carried channel history)),
  frames-again (on channel (frames_taken history)) ∙ ap (map frame_carried) (sym (takes-carried channel history)),
)

pub openings-meet : (role : Role) → OpeningsMeet role
openings-meet Client = refl
openings-meet Server = refl

-- Frames begin with these ones, and the octets of the others are this rest.
pub record BeginsWith (frames departing : List Frame) (rest : List ℕ) : Type 0 where
  pub later : List Frame
  pub departing_is : departing ≡ frames ++ later
  pub rest_is : stream later ≡ rest
  pub fit : AllFit later

no-octets : (f : Frame) (xs : List ℕ) → [] ≡ octets f ++ xs → ⊥
no-octets f xs e =
    let l : 0 ≡ length (octets f) + length xs = ap length e ∙ length-append (octets f) xs in
    let k = length-octets f in
    absurd (omega arith)

-- frames whose octets begin with those of other frames begin with these
frames-first : (frames departing : List Frame) (rest : List ℕ) → AllFit frames → AllFit departing
    → stream departing ≡ stream frames ++ rest → BeginsWith frames departing rest
frames-first [] departing rest fits fit e = record { later = departing; departing_is = refl; rest_is = e; fit = fit }
frames-first (f ∷ frames) [] rest fits fit e =
    absurd (no-octets f (stream frames ++ rest) (e ∙ append_assoc (octets f) (stream frames) rest))
frames-first (f ∷ frames) (g ∷ departing) rest fits fit e =
    let first = one_frame g f (stream departing) (stream frames ++ rest) fit.0 fits.0 (e
    ∙ append_assoc (octets f) (stream frames) rest) in
    let more = frames-first frames departing rest fits.1 fit.1 first.1 in
    record {
      later = more.later;
      departing_is = ap (λ l. g ∷ l) more.departing_is
          ∙ ap (λ h. h ∷ (frames ++ more.later)) first.0;
      rest_is = more.rest_is;
      fit = more.fit;
    }

-- the frames that leave the other end begin with those that this one took
pub taken-first : (role : Role) (departing : List Frame) (put fed unfinished rest : List ℕ) (history : History)
    → put ≡ opening_read role ++ stream departing → AllFit departing → put ≡ fed ++ rest
    → fed ≡ opening_read role ++ (stream (frames_taken history) ++ unfinished) → AllFit (frames_taken history)
    → BeginsWith (frames_taken history) departing (unfinished ++ rest)
taken-first role departing put fed unfinished rest history put_is fit whole fed_is fits =
    frames-first (frames_taken history) departing (unfinished ++ rest) fits fit same
  where
    same : stream departing ≡ stream (frames_taken history) ++ (unfinished ++ rest)
    same =
        append_cancel_left (opening_read role) _ _ (sym put_is
        ∙ (whole ∙ (ap (λ l. l ++ rest) fed_is
        ∙ (append_assoc (opening_read role) _ rest
        ∙ ap (λ l. opening_read role ++ l) (append_assoc (stream (frames_taken history)) unfinished rest)))))

on-prefix : (channel : ℕ) (prefix whole : List Frame) → IsPrefixOf prefix whole
    → IsPrefixOf (on channel prefix) (on channel whole)
on-prefix channel prefix whole f =
    (on channel f.0, ap (on channel) f.1 ∙ filter-append (λ g. g.channel == channel) prefix f.0)

pub takes-prefix : TakesPrefixOnEach
takes-prefix role limit mine theirs put fed unfinished rest carries channel = go carries.fed_as
  where
    go : FedAs role limit mine fed unfinished
        → IsPrefixOf (on channel (frames_taken mine)) (on channel (frames_put theirs))
    go (FedAs.in_opening missing some opening none is) = (
      on channel (frames_put theirs),
      ap (λ h. on channel (frames_taken h) ++ on channel (frames_put theirs))
          (sym none),
    )
    go (FedAs.in_frames opened fed_is fits is_rest) =
        let p = carries.put_as in
        let there = taken-first role p.departing put fed unfinished rest mine p.octets_are p.fit
        carries.put_is fed_is fits in
        subst (λ l. IsPrefixOf (on channel (frames_taken mine)) l) (p.each_channel channel)
        (on-prefix channel _ _ (there.later, there.departing_is))

-- no frame begins as the protocol header does
no-frame-in-opening : (kind : FrameKind) → 65 ≡ type_octet kind → ⊥
no-frame-in-opening Method e = absurd (omega arith)
no-frame-in-opening Header e = absurd (omega arith)
no-frame-in-opening Body e = absurd (omega arith)
no-frame-in-opening Heartbeat e = absurd (omega arith)

opening-is-no-frame : (role : Role) (fed missing xs ys : List ℕ) (f : Frame) → missing ≢ []
    → opening_read role ≡ fed ++ missing → opening_read role ++ xs ≡ octets f ++ ys → ⊥
opening-is-no-frame Client [] missing xs ys f some e same = some (sym e)
opening-is-no-frame Client (x ∷ fed) missing xs ys f some e same = absurd cc
opening-is-no-frame Server fed missing xs ys f some e same =
    no-frame-in-opening f.kind (ap (λ l. get_or l 0 0) same ∙ type-at_start f ys)

-- octets that are those of a frame and then others are those of frames that begin with it
first-frame : (later : List Frame) (f : Frame) (xs : List ℕ) → AllFit later → Fits f
    → stream later ≡ octets f ++ xs → IsPrefixOf (f ∷ []) later
first-frame [] f xs fit fits e = absurd (no-octets f xs e)
first-frame (g ∷ later) f xs fit fits e =
    (later, ap (λ h. h ∷ later) (one_frame g f (stream later) xs fit.0 fits e).0)

-- a frame that comes next is the next in the notes of its channel
pub next-noted : (theirs mine : History) (frame : Frame) (n : ℕ) → ComesNext theirs mine frame
    → frame.channel ≡ suc n → IsNext (notes_on (suc n) theirs) (notes_on (suc n) mine) (as_carried frame)
next-noted theirs mine frame n comes here =
    let next : on (suc n) (frames_put theirs) ≡ on (suc n) (frames_taken mine) ++ frame ∷ comes.later =
    subst (λ c. on c (frames_put theirs) ≡ on c (frames_taken mine) ++ frame ∷ comes.later) here comes.next in (
      map as_carried comes.later,
      puts-carried (suc n) theirs
          ∙ (ap (map as_carried) next ∙ (map-append as_carried (on (suc n) (frames_taken mine)) _
          ∙ ap (λ l. l ++ as_carried frame ∷ map as_carried comes.later) (sym (takes-carried (suc n) mine)))),
    )

-- where all frames of a channel were taken, all its notes were
pub all-noted : (theirs mine : History) (n : ℕ) → on (suc n) (frames_put theirs) ≡ on (suc n) (frames_taken mine)
    → put_by (notes_on (suc n) theirs) ≡ taken_by (notes_on (suc n) mine)
all-noted theirs mine n same =
    puts-carried (suc n) theirs ∙ (ap (map as_carried) same ∙ sym (takes-carried (suc n) mine))

-- a frame that the octets not yet taken begin with leaves the other end right after those that were taken
completed : (role : Role) (limit : ℕ) (mine theirs : History) (put fed unfinished rest : List ℕ) (f : Frame)
    (prefix later : List ℕ) (carries : Carries role limit mine theirs put fed unfinished rest)
    → rest ≡ prefix ++ later → unfinished ++ prefix ≡ octets f → Fits f → (after : List Frame)
    × (carries.put_as.departing ≡ frames_taken mine ++ f ∷ after)
completed role limit mine theirs put fed unfinished rest f prefix later carries rest_is whole fits = go carries.fed_as
  where
    octets_next : unfinished ++ rest ≡ octets f ++ later
    octets_next =
        ap (λ l. unfinished ++ l) rest_is
        ∙ (sym (append_assoc unfinished prefix later) ∙ ap (λ l. l ++ later) whole)

    go : FedAs role limit mine fed unfinished → (after : List Frame)
        × (carries.put_as.departing ≡ frames_taken mine ++ f ∷ after)
    go (FedAs.in_opening missing some opening none is) =
        let p = carries.put_as in
        absurd (opening-is-no-frame role fed missing (stream p.departing) later f some opening (sym p.octets_are
        ∙ (carries.put_is ∙ (ap (λ l. l ++ rest) (sym is) ∙ octets_next))))
    go (FedAs.in_frames opened fed_is taken_fit is_rest) =
        let p = carries.put_as in
        let there = taken-first role p.departing put fed unfinished rest mine p.octets_are p.fit
        carries.put_is fed_is taken_fit in
        let first = first-frame there.later f later there.fit fits (there.rest_is ∙ octets_next) in
        (first.0, there.departing_is ∙ ap (λ l. frames_taken mine ++ l) first.1)

-- connection.close and close-ok stand on no channel above 0
leaving-elsewhere : (n : ℕ) (f : Frame) (after : List Frame) → is_leaving f ≡ true
    → on (suc n) (f ∷ after) ≡ on (suc n) after
leaving-elsewhere n f after leaving =
    let zero_is = eqb-true f.channel 0 (and_parts (f.channel == 0) _ leaving).0 in
    cond-false (f.channel == suc n) _ _ (ne_eqb f.channel (suc n) (λ e. let h : 0 ≡ suc n = sym zero_is ∙ e in
    absurd (omega arith)))

pub completed-comes-next : CompletedComesNext
completed-comes-next role limit mine theirs put fed unfinished rest f prefix later carries rest_is whole fits =
    record { later = on f.channel there.0; next = sym (p.each_channel f.channel) ∙ order; at_leaving = all }
  where
    p : PutAs (opening_read role) put (frames_put theirs)
    p = carries.put_as

    there : (after : List Frame) × (p.departing ≡ frames_taken mine ++ f ∷ after)
    there = completed role limit mine theirs put fed unfinished rest f prefix later carries rest_is whole fits

    split : (channel : ℕ) → on channel p.departing ≡ on channel (frames_taken mine) ++ on channel (f ∷ there.0)
    split channel =
        ap (on channel) there.1 ∙ filter-append (λ g. g.channel == channel) (frames_taken mine) (f ∷ there.0)

    order : on f.channel p.departing ≡ on f.channel (frames_taken mine) ++ f ∷ on f.channel there.0
    order =
        split f.channel
        ∙ ap (λ l. on f.channel (frames_taken mine) ++ l)
        (cond-true (f.channel == f.channel) _ _ (eq-eqb f.channel f.channel refl))

    all : is_leaving f ≡ true → (n : ℕ) → on (suc n) (frames_put theirs) ≡ on (suc n) (frames_taken mine)
    all leaving n =
        let none_after = leaving-elsewhere n f there.0 leaving
        ∙ p.closes_last (frames_taken mine) there.0 f there.1 leaving (suc n) (omega arith) in
        sym (p.each_channel (suc n))
        ∙ (split (suc n) ∙ (ap (λ l. on (suc n) (frames_taken mine) ++ l) none_after ∙ append-nil _))
