-- The header of a content under way came in one frame.
use Rattle.std.proofs.Common.{◌≡◌, ◌≤◌, inl, Bool, true, false, cond, ℕ, zero}
use Rattle.std.proofs.Common.{suc, ◌==◌, nat_lt, arith, List, [], ◌∷◌, ◌++◌, length, Option, Some}
use Rattle.std.proofs.Common.{None, Ok, Err, Result, refl, sym, ap, ◌∙◌, subst, All}
use Rattle.std.proofs.lemmas.Bool.{false≢true, true≢false}
use Rattle.byteorder.specs.Endian.{big_bytes}
use Rattle.amqp_value.proofs.Numbers.{IsBytes}
use Rattle.amqp_value.specs.Lengths.{capped}
use Rattle.amqp_frame.specs.Frame as frames
use Rattle.amqp_frame.specs.Splitting.{stream}
use Rattle.amqp_frame.specs.declared.frames.FrameKind.{FrameKind}
use Rattle.amqp_frame.specs.declared.frames.FrameKind.TheVariants as kinds
use Rattle.amqp_method.proofs.HeaderLemmas.{header_at-takes}
use Rattle.amqp_method.specs.HeaderReading as header_reads
use Rattle.amqp_method.specs.Properties.{EncodesHeader}
use Rattle.amqp_method.specs.declared.faults.MethodFault.{MethodFault}
use Rattle.amqp_model.specs.Wire.Frame.{Frame}
use Rattle.amqp_model.specs.Wire.Notes.{Role, Client, Server, Kind, Open, OpenOk, Close, CloseOk}
use Rattle.amqp_model.specs.Wire.Methods.{Header, Method, MethodRead, Properties, Reads, NoSuchMethod, DoesNotParse}
use Rattle.amqp_model.specs.Wire.Methods.{carries_content, header_at, header_read, method_at, plain_header}
use Rattle.amqp_model.specs.Wire.Contents.{Payload}
use Rattle.amqp_model.specs.Wire.Gathering.{begun, Gathering, Nothing, HeaderDue, BodyDue, Keeps, Completes, Breaks}
use Rattle.amqp_model.specs.Wire.Gathering.{Misfit, step, remains}
use Rattle.amqp_model.specs.Wire.Readings.{Reading, Calls, UnknownMethod, MalformedMethod, HeaderOf, MalformedHeader}
use Rattle.amqp_model.specs.Wire.Readings.{BodyOf, Beat, header_reading, method_reading, reading, kind_of, payload_of}
use Rattle.amqp_model.specs.History.Histories.{History, Put, Took, PutHere, TookHere}
use Rattle.amqp_model.specs.History.Negotiation.{Config, frame_limit}
use Rattle.amqp_model.specs.End.Amounts.{header_octets, header_octets_on}
use Rattle.amqp_model.specs.End.Channels.{Channel, Free, Opening, Closing, Phase, Handshake, Running, Closed, Failed}
use Rattle.amqp_model.specs.End.Channels.{End}
use Rattle.amqp_model.specs.End.Channels as channels
use Rattle.amqp_model.specs.End.Closes.{Owed, frame_of}
use Rattle.amqp_model.specs.End.Events.{FrameVerdict}
use Rattle.amqp_model.specs.End.FrameVerdict.{methods_put, verdict_on}
use Rattle.amqp_model.specs.End.EndVerdict.{facts_at, end_puts, end_verdict, goes_on, CanTake}
use Rattle.amqp_model.specs.End.Asks.{Ask, frames_asked, Puts, ask_verdict, method_asked, refusal}
use Rattle.amqp_model.specs.Wire.Methods.{ReadsBack}
use Rattle.amqp_model.specs.End.ReadingBack.{WritesReadBack}
use Rattle.amqp_model.specs.End.LawfulHistories.{end_of, then_put, Goes, greets, takes, faults}
use Rattle.amqp_model.specs.End.LawfulHistories.{meets_too_large, fails, asks, controls, Lawful, begun as at_start}
use Rattle.amqp_model.specs.End.LawfulHistories.{goes}
use Rattle.amqp_model.specs.End.Machine.{channel_after_put, after_taken, unless_leaving, set_channel, new_end, end_after}
use Rattle.amqp_model.specs.End.Machine.{end_after_owed, end_after_put, end_after_taken, failed_by, StandsFor}
use Rattle.amqp_model.specs.Laws.EndLaws.{is_over}
use Rattle.amqp_model.specs.Laws.OctetLaws.{IsOctet}
use Rattle.amqp_model.specs.Stream.Octets.{frames_taken}
use Rattle.amqp_model.proofs.Agreeing.{facts_in, frame-agrees, handshake-stops, is_closing}
use Rattle.amqp_model.proofs.AskSteps.{asks-follow}
use Rattle.amqp_model.proofs.Asking.{accepted as accepted-ask, accepted-none}
use Rattle.amqp_model.proofs.ChannelWalks.{lawful-walks}
use Rattle.amqp_model.proofs.Controlling.{control-kept, puts-at-zero}
use Rattle.amqp_model.proofs.Elsewhere.{Each, verdict-zero}
use Rattle.amqp_model.proofs.EndSteps.{not-zero, new-end-stands}
use Rattle.amqp_model.proofs.FrameSteps.{not-failed, frame-follows}
use Rattle.amqp_model.proofs.HeaderLengths.{one-header_length}
use Rattle.amqp_model.proofs.Numbering.{in_handshake, owed-elsewhere, owed-here, owed-settles-none, owed-zero}
use Rattle.amqp_model.proofs.Numbering.{took-settles-none, zero-quiet, QuietZero}
use Rattle.amqp_model.proofs.OctetAsks.{all-keep, ask-keeps, control-keeps}
use Rattle.amqp_model.proofs.Standing.{end-stands}
use Rattle.amqp_model.proofs.Taking.{puts-none}
use Rattle.amqp_model.proofs.Walking.{Stands, stands-kept}
use Rattle.amqp_model.proofs.Writing.{stream-append}

-- What a frame says.

bytes : (octets : List ℕ) → All IsOctet octets → IsBytes octets
bytes [] all i = omega arith
bytes (octet ∷ later) all zero = let first = all 0 0 (omega arith) in omega (arith, first)
bytes (octet ∷ later) all (suc i) = bytes later (λ k d within. all (suc k) d (omega (arith, within))) i

some-is : (r : Result Header MethodFault) (header : Header) → header_read r ≡ Some header → r ≡ Ok header
some-is (Ok read) header e = cc e
some-is (Err fault) header e = cc e

header-encodes : (payload : List ℕ) (header : Header) → All IsOctet payload → header_at payload ≡ Some header
    → EncodesHeader header payload
unfolding header_at
header-encodes payload header all e =
    header_at-takes payload header (bytes payload all) (some-is (header_reads.header_at payload) header e)

-- a header that comes has at most so many octets
abbrev Comes : (most : ℕ) → Reading → Type 0
Comes most (HeaderOf size properties) =
    capped (length (plain_header (record { body_size = size; properties = properties }))) ≤ most
Comes most r = Unit {0}

comes-header : (payload : List ℕ) (read : Option Header) → header_at payload ≡ read → All IsOctet payload
    → Comes (length payload) (header_reading read)
comes-header payload None e all = tt
comes-header payload (Some header) e all =
    let same : length payload ≡ length (plain_header header) =
    one-header_length header payload (header-encodes payload header all e) in
    omega (arith, same)

comes-method : (most : ℕ) (read : MethodRead) → Comes most (method_reading read)
comes-method most (Reads method) = tt
comes-method most NoSuchMethod = tt
comes-method most DoesNotParse = tt

comes-by : (kind : FrameKind) (channel : ℕ) (payload : List ℕ) → All IsOctet payload
    → Comes (length payload) (reading (record { kind = kind; channel = channel; payload = payload }))
comes-by kinds.Method channel payload all = comes-method (length payload) (method_at payload)
comes-by kinds.Header channel payload all = comes-header payload (header_at payload) refl all
comes-by kinds.Body channel payload all = tt
comes-by kinds.Heartbeat channel payload all = tt

more-comes : (one other : ℕ) (r : Reading) → one ≤ other → Comes one r → Comes other r
more-comes one other (HeaderOf size properties) more comes = omega (arith, more, comes)
more-comes one other (Calls method) more comes = tt
more-comes one other UnknownMethod more comes = tt
more-comes one other MalformedMethod more comes = tt
more-comes one other MalformedHeader more comes = tt
more-comes one other (BodyOf octets) more comes = tt
more-comes one other (Beat empty) more comes = tt

-- One channel.

abbrev Small : (most : ℕ) → Channel → Type 0
Small most channel = header_octets_on channel ≤ most

put-small : (role : Role) (most : ℕ) (channel : Channel) (r : Reading) (frame : Frame) (kind : Kind)
    → Small most channel → Small most (channel_after_put role (PutHere r frame) channel kind)
put-small Client most Free r frame Open s = omega arith
put-small role most Free r frame kind s = omega arith
put-small role most Opening r frame kind s = omega arith
put-small role most Closing r frame kind s = omega arith
put-small role most (channels.Open life) r frame Close s = omega arith
put-small role most (channels.Open life) r frame kind s = s

begun-small : (most : ℕ) (method : Method) → header_octets (begun method) ≤ most
begun-small most method = by (carries_content method)
  where
    by : (b : Bool) → header_octets (cond b (HeaderDue method) Nothing) ≤ most
    by true = omega arith
    by false = omega arith

method-small : (most : ℕ) (kept : Gathering) (method : Method)
    → header_octets (remains (step kept (Payload.Calls method)) (Payload.Calls method)) ≤ most
method-small most Nothing method = begun-small most method
method-small most (HeaderDue other) method = begun-small most method
method-small most (BodyDue other size properties body) method = begun-small most method

abbrev is_part : Payload → Bool
is_part (Payload.Calls method) = false
is_part payload = true

gathered-small : (most : ℕ) (method : Method) (size : ℕ) (properties : Properties) (body : List ℕ)
    (payload : Payload) → is_part payload ≡ true → header_octets (BodyDue method size properties body) ≤ most
    → (whole short : Bool)
    → header_octets
    (remains (cond whole (Completes (record { method = method; properties = properties; body = body }))
    (cond short (Keeps (BodyDue method size properties body)) (Breaks Misfit.PastSize))) payload) ≤ most
gathered-small most method size properties body payload p small true short = omega arith
gathered-small most method size properties body payload p small false true = small
gathered-small most method size properties body (Payload.Calls other) p small false false = absurd (false≢true p)
gathered-small most method size properties body (Payload.Header again others) p small false false = omega arith
gathered-small most method size properties body (Payload.Body octets) p small false false = omega arith
gathered-small most method size properties body Payload.Unread p small false false = omega arith

part-small : (most : ℕ) (kept : Gathering) (r : Reading) → header_octets kept ≤ most → Comes most r
    → header_octets (remains (step kept (payload_of r)) (payload_of r)) ≤ most
part-small most kept (Calls method) small comes = method-small most kept method
part-small most Nothing (HeaderOf size properties) small comes = omega arith
part-small most (HeaderDue method) (HeaderOf size properties) small comes =
    gathered-small most method size properties [] (Payload.Header size properties) refl comes
    (0 == size) (nat_lt 0 size)
part-small most (BodyDue method size properties body) (HeaderOf again others) small comes = omega arith
part-small most Nothing (BodyOf octets) small comes = omega arith
part-small most (HeaderDue method) (BodyOf octets) small comes = omega arith
part-small most (BodyDue method size properties body) (BodyOf octets) small comes =
    gathered-small most method size properties (body ++ octets) (Payload.Body octets) refl small
    (length (body ++ octets) == size) (nat_lt (length (body ++ octets)) size)
part-small most Nothing UnknownMethod small comes = omega arith
part-small most (HeaderDue method) UnknownMethod small comes = omega arith
part-small most (BodyDue method size properties body) UnknownMethod small comes = omega arith
part-small most Nothing MalformedMethod small comes = omega arith
part-small most (HeaderDue method) MalformedMethod small comes = omega arith
part-small most (BodyDue method size properties body) MalformedMethod small comes = omega arith
part-small most Nothing MalformedHeader small comes = omega arith
part-small most (HeaderDue method) MalformedHeader small comes = omega arith
part-small most (BodyDue method size properties body) MalformedHeader small comes = omega arith
part-small most Nothing (Beat empty) small comes = omega arith
part-small most (HeaderDue method) (Beat empty) small comes = omega arith
part-small most (BodyDue method size properties body) (Beat empty) small comes = omega arith

took-small : (role : Role) (most : ℕ) (channel : Channel) (r : Reading) (frame : Frame) (kind : Kind)
    → Small most channel → Comes most r → Small most (after_taken role (TookHere r frame) channel kind)
took-small Server most Free r frame Open s c = omega arith
took-small role most Free r frame kind s c = omega arith
took-small Client most Opening r frame OpenOk s c = omega arith
took-small role most Opening r frame Close s c = omega arith
took-small Client most Opening r frame kind s c = omega arith
took-small Server most Opening r frame kind s c = omega arith
took-small role most Closing r frame CloseOk s c = omega arith
took-small role most Closing r frame kind s c = omega arith
took-small role most (channels.Open life) r frame Close s c = omega arith
took-small role most (channels.Open life) r frame kind s c = part-small most life.content r s c

-- All of an end.

abbrev AllSmall : (most : ℕ) → End → Type 0
AllSmall most end = (n : ℕ) → Small most (end.channels n)

set-small : (most : ℕ) (end : End) (m : ℕ) (new : Channel) → AllSmall most end → Small most new → (n : ℕ)
    → Small most (set_channel (suc m) (unless_leaving end.phase (end.channels (suc m)) new) end.channels n)
set-small most end m new s here n = cases (n == suc m) end.phase
  where
    cases : (b : Bool) (phase : Phase)
        → Small most (cond b (unless_leaving phase (end.channels (suc m)) new) (end.channels n))
    cases true Phase.Closing = s (suc m)
    cases true (Handshake at) = here
    cases true Running = here
    cases true Closed = here
    cases true Failed = here
    cases false phase = s n

put-all : (role : Role) (config : Config role) (most c : ℕ) (r : Reading) (frame : Frame) (end : End)
    → AllSmall most end → AllSmall most (end_after role config c (PutHere r frame) end)
put-all role config most zero r frame end s = s
put-all role config most (suc m) r frame end s =
    set-small most end m _ s (put-small role most (end.channels (suc m)) r frame (kind_of r) (s (suc m)))

took-all : (role : Role) (config : Config role) (most c : ℕ) (r : Reading) (frame : Frame) (end : End)
    → AllSmall most end → Comes most r → AllSmall most (end_after role config c (TookHere r frame) end)
took-all role config most zero r frame end s comes = s
took-all role config most (suc m) r frame end s comes =
    set-small most end m _ s (took-small role most (end.channels (suc m)) r frame (kind_of r) (s (suc m)) comes)

owed-all : (role : Role) (config : Config role) (most : ℕ) (owed : List Owed) (end : End) → AllSmall most end
    → AllSmall most (end_after_owed role config owed end)
owed-all role config most [] end s = s
owed-all role config most (owed ∷ later) end s =
    owed-all role config most later _ (put-all role config most owed.channel (Calls owed.method) (frame_of owed) end s)

puts-all : (role : Role) (config : Config role) (most : ℕ) (frames : List Frame) (end : End) → AllSmall most end
    → AllSmall most (end_after_put role config frames end)
puts-all role config most [] end s = s
puts-all role config most (frame ∷ later) end s =
    puts-all role config most later _ (put-all role config most frame.channel (reading frame) frame end s)

-- A frame that the end goes on after.

abbrev pub HeadersAreWithin : End → Type 0
HeadersAreWithin end = AllSmall (frame_limit end.agreed) end

-- a channel that is Free has none
none-small : (most : ℕ) (channel : Channel) → channel ≡ Free → Small most channel
none-small most channel e = let none : header_octets_on channel ≡ 0 = ap header_octets_on e in omega (arith, none)

module _ (role : Role) (config : Config role) (end : End) (history : History) (frame : Frame)
    (stands : StandsFor role config false end history) (w : HeadersAreWithin end) (octets : All IsOctet frame.payload)
    (can : CanTake end frame) where
  abbrev verdict_at : ℕ → FrameVerdict
  verdict_at c = verdict_on (facts_at config end c) (reading frame)

  abbrev owed_at : ℕ → List Owed
  owed_at c = methods_put (facts_at config end c) (verdict_at c)

  abbrev taken_at : ℕ → End
  taken_at c = end_after role config c (TookHere (reading frame) frame) end

  abbrev left_at : ℕ → End
  left_at c = end_after_owed role config (owed_at c) (taken_at c)

  comes-here : Comes (frame_limit end.agreed) (reading frame)
  comes-here =
      more-comes (length frame.payload) (frame_limit end.agreed) (reading frame) (let within = can.within in
      omega (arith, within)) (comes-by frame.kind frame.channel frame.payload octets)

  old-limit : (c : ℕ) → AllSmall (frame_limit end.agreed) (left_at c)
  old-limit c =
      owed-all role config (frame_limit end.agreed) (owed_at c) (taken_at c)
      (took-all role config (frame_limit end.agreed) c (reading frame) frame end w comes-here)

  same-limit : (c : ℕ) → (left_at c).agreed ≡ end.agreed → HeadersAreWithin (left_at c)
  same-limit c e = subst (λ agreed. AllSmall (frame_limit agreed) (left_at c)) (sym e) (old-limit c)

  abbrev Goes_at : (phase : Phase) → (c : ℕ) → Type 0
  Goes_at phase c = goes_on (verdict_on (facts_in config phase end.agreed c (end.channels c)) (reading frame)) ≡ true

  -- on channel 0
  settled : in_handshake end.phase ≡ false → goes_on (verdict_on (facts_at config end 0) (reading frame)) ≡ true
      → (left_at 0).agreed ≡ end.agreed
  settled h g =
      owed-settles-none role config (owed_at 0) (taken_at 0)
      (subst (λ channel.
      Each QuietZero (methods_put (facts_in config end.phase end.agreed 0 channel)
      (verdict_on (facts_in config end.phase end.agreed 0 channel) (reading frame)))) (sym stands.no_channel)
      (zero-quiet config end.phase end.agreed (reading frame) h
      (subst (λ channel. goes_on (verdict_on (facts_in config end.phase end.agreed 0 channel) (reading frame))
      ≡ true) stands.no_channel g)))
      ∙ took-settles-none role config end.phase (reading frame) frame end.agreed h

  zero-within : (phase : Phase) → end.phase ≡ phase → goes_on (verdict_on (facts_at config end 0) (reading frame))
      ≡ true → HeadersAreWithin (left_at 0)
  zero-within (Handshake at) p g = λ n.
      none-small (frame_limit (left_at 0).agreed) ((left_at 0).channels n)
      (owed-zero role config (owed_at 0) (taken_at 0) (verdict-zero (facts_at config end 0) refl (reading frame) g) n
      ∙ stands.free_before at p n)
  zero-within Running p g = same-limit 0 (settled (ap in_handshake p) g)
  zero-within Phase.Closing p g = same-limit 0 (settled (ap in_handshake p) g)
  zero-within Closed p g = same-limit 0 (settled (ap in_handshake p) g)
  zero-within Failed p g = same-limit 0 (settled (ap in_handshake p) g)

  -- on a channel above 0
  quiet-above : (m : ℕ)
      → Each (λ owed. owed.channel ≡ suc m)
      (methods_put (facts_at config end (suc m)) (verdict_on (facts_at config end (suc m)) (reading frame)))
      → (left_at (suc m)).agreed ≡ end.agreed
  quiet-above m here = (owed-elsewhere role config m (owed_at (suc m)) (taken_at (suc m)) here).0

  none-above : (m : ℕ) (owed : List Owed) → owed ≡ [] → Each (λ owed. owed.channel ≡ suc m) owed
  none-above m owed e = subst (Each (λ owed. owed.channel ≡ suc m)) (sym e) tt

  above-within : (m : ℕ) (phase : Phase) → end.phase ≡ phase
      → goes_on (verdict_on (facts_at config end (suc m)) (reading frame)) ≡ true
      → HeadersAreWithin (left_at (suc m))
  above-within m Running p g =
      same-limit (suc m)
      (quiet-above m (owed-here (facts_at config end (suc m)) (end.channels (suc m)) (reading frame)
      (verdict_at (suc m)) (frame-agrees config end.phase end.agreed (suc m) (end.channels (suc m)) (ap is_over p)
      (not-zero m) (reading frame) g)))
  above-within m Phase.Closing p g =
      same-limit (suc m)
      (quiet-above m
      (none-above m (owed_at (suc m))
      (subst (λ p. methods_put (facts_in config p end.agreed (suc m) (end.channels (suc m)))
      (verdict_on (facts_in config p end.agreed (suc m) (end.channels (suc m))) (reading frame)) ≡ []) (sym p)
      (puts-none config end.agreed m (end.channels (suc m)) (reading frame)))))
  above-within m (Handshake at) p g =
      handshake-stops config at end.agreed (suc m) (end.channels (suc m))
      (ap is_closing (stands.free_before at p (suc m))) (not-zero m) (reading frame)
      (subst (λ p. Goes_at p (suc m)) p g)
  above-within m Closed p g = absurd (false≢true (subst (λ p. Goes_at p (suc m)) p g))
  above-within m Failed p g = absurd (false≢true (subst (λ p. Goes_at p (suc m)) p g))

  frame-within : goes_on (end_verdict config end frame) ≡ true
      → HeadersAreWithin (end_after_taken role config end (reading frame) frame)
  frame-within g = by-channel frame.channel g
    where
      by-channel : (c : ℕ) → goes_on (verdict_on (facts_at config end c) (reading frame)) ≡ true
          → HeadersAreWithin (failed_by (verdict_on (facts_at config end c) (reading frame)) (left_at c))
      by-channel zero g =
          subst HeadersAreWithin (sym (not-failed (verdict_on (facts_at config end 0) (reading frame)) _ g))
          (zero-within end.phase refl g)
      by-channel (suc m) g =
          subst HeadersAreWithin (sym (not-failed (verdict_on (facts_at config end (suc m)) (reading frame)) _ g))
          (above-within m end.phase refl g)

-- An ask.

ask-within : (role : Role) (config : Config role) (end : End) (ask : Ask) (frames : List Frame) → HeadersAreWithin end
    → ReadsBack (method_asked ask) → ask_verdict role end ask ≡ Puts frames
    → HeadersAreWithin (end_after_put role config frames end)
ask-within role config end ask frames w back e =
    subst (λ agreed. AllSmall (frame_limit agreed) (end_after_put role config frames end)) (sym same)
    (puts-all role config (frame_limit end.agreed) frames end w)
  where
    parts : (refusal role end ask ≡ None) × (frames_asked end ask ≡ frames)
    parts = accepted-none (refusal role end ask) (frames_asked end ask) frames e

    same : (end_after_put role config frames end).agreed ≡ end.agreed
    same =
        subst (λ frames. (end_after_put role config frames end).agreed ≡ end.agreed) parts.1
        (all-keep role config (frames_asked end ask) end
        (ask-keeps role config end ask back (accepted-ask role end ask parts.0)))

-- Lawful histories.

-- the payloads of the frames taken are octets
abbrev pub TookOctets : History → Type 0
TookOctets [] = Unit {0}
TookOctets (Took frame ∷ before) = All IsOctet frame.payload × TookOctets before
TookOctets (Put frame ∷ before) = TookOctets before

before-put : (frames : List Frame) (history : History) → TookOctets (then_put frames history) → TookOctets history
before-put [] history took = took
before-put (frame ∷ later) history took = before-put later (Put frame ∷ history) took

step-within : (role : Role) (config : Config role) (before : History) (taken : Option Frame) (failed : Bool)
    (after : History) → failed ≡ false → WritesReadBack role config
    → StandsFor role config false (end_of config before) before → TookOctets after
    → (TookOctets before → HeadersAreWithin (end_of config before)) → Goes role config before taken failed after
    → HeadersAreWithin (end_of config after)
step-within role config before taken failed after e back stands took w greets =
    subst HeadersAreWithin
    (sym (end-stands role config _ after (stands-kept.puts.put role config (end_of config []) [] _ stands (inl refl))))
    (w tt)
step-within role config before taken failed after e back stands took w (takes frame can g) =
    let octets = before-put (end_puts config (end_of config before) frame) (Took frame ∷ before) took in
    subst HeadersAreWithin
    (sym (end-stands role config _ after (frame-follows role config (end_of config before) before frame back stands g)))
    (frame-within role config (end_of config before) before frame stands (w octets.1) octets.0 can g)
step-within role config before taken failed after e back stands took w (asks ask frames made read v) =
    subst HeadersAreWithin
    (sym (end-stands role config _ after
    (asks-follow role config (end_of config before) before ask frames stands read.method made v)))
    (ask-within role config (end_of config before) ask frames (w (before-put frames before took)) read.method v)
step-within role config before taken failed after e back stands took w (controls control frames read v) =
    let at = puts-at-zero role config (end_of config before) control frames back read v in
    let stood = control-kept Stands stands-kept.puts role config (end_of config before) before frames stands at in
    let same = all-keep role config frames (end_of config before) (control-keeps role config frames at) in
    subst HeadersAreWithin (sym (end-stands role config _ after stood))
    (subst (λ agreed. AllSmall (frame_limit agreed) (end_after_put role config frames (end_of config before)))
    (sym same)
    (puts-all role config (frame_limit (end_of config before).agreed) frames (end_of config before)
    (w (before-put frames before took))))
step-within role config before taken failed after e back stands took w (faults frame can g) = absurd (true≢false e)
step-within role config before taken failed after e back stands took w (meets_too_large p) = absurd (true≢false e)
step-within role config before taken failed after e back stands took w (fails p) = absurd (true≢false e)

lawful-headers : (role : Role) (config : Config role) (failed : Bool) (history : History) → failed ≡ false
    → WritesReadBack role config → Lawful role config failed history → TookOctets history
    → HeadersAreWithin (end_of config history)
lawful-headers role config failed history e back at_start took =
    subst HeadersAreWithin (sym (end-stands role config (new_end role) [] (new-end-stands role config)))
    (λ n. omega arith)
lawful-headers role config failed history e back (goes {before = before} {taken = taken} lawful step) took =
    step-within role config before taken failed history e back
    (lawful-walks role config false before refl back lawful).stands took
    (λ took. lawful-headers role config false before refl back lawful took) step

pub stands-headers : (role : Role) (config : Config role) (end : End) (history : History) → WritesReadBack role config
    → Lawful role config false history → StandsFor role config false end history
    → TookOctets history → HeadersAreWithin end
stands-headers role config end history back lawful stands took =
    subst HeadersAreWithin (end-stands role config end history stands)
    (lawful-headers role config false history refl back lawful took)

-- What was fed.

pub first-all : (xs ys : List ℕ) → All IsOctet (xs ++ ys) → All IsOctet xs
first-all [] ys all k d within = absurd (omega (arith, within))
first-all (x ∷ xs) ys all zero d within = all 0 d (omega arith)
first-all (x ∷ xs) ys all (suc k) d within =
    first-all xs ys (λ k d within. all (suc k) d (omega (arith, within))) k d (omega (arith, within))

pub later-all : (xs ys : List ℕ) → All IsOctet (xs ++ ys) → All IsOctet ys
later-all [] ys all = all
later-all (x ∷ xs) ys all = later-all xs ys (λ k d within. all (suc k) d (omega (arith, within)))

payload-octets : (frame : Frame) → All IsOctet (frames.octets frame) → All IsOctet frame.payload
unfolding frames.octets
payload-octets frame all =
    let channel : All IsOctet
    (big_bytes 2 frame.channel ++ (big_bytes 4 (length frame.payload) ++ (frame.payload ++ 206 ∷ []))) =
    later-all (frames.type_octet frame.kind ∷ [])
    (big_bytes 2 frame.channel ++ (big_bytes 4 (length frame.payload) ++ (frame.payload ++ 206 ∷ []))) all in
    let size : All IsOctet (big_bytes 4 (length frame.payload) ++ (frame.payload ++ 206 ∷ [])) =
    later-all (big_bytes 2 frame.channel)
    (big_bytes 4 (length frame.payload) ++ (frame.payload ++ 206 ∷ [])) channel in
    first-all frame.payload (206 ∷ [])
    (later-all (big_bytes 4 (length frame.payload)) (frame.payload ++ 206 ∷ []) size)

pub took-octets : (history : History) → All IsOctet (stream (frames_taken history)) → TookOctets history
took-octets [] all = tt
took-octets (Put frame ∷ before) all = took-octets before all
took-octets (Took frame ∷ before) all =
    let parts : All IsOctet (stream (frames_taken before) ++ (frames.octets frame ++ [])) =
    subst (All IsOctet) (stream-append (frames_taken before) (frame ∷ [])) all in
    let here : All IsOctet (frames.octets frame ++ []) =
    later-all (stream (frames_taken before)) (frames.octets frame ++ []) parts in
    let earlier : All IsOctet (stream (frames_taken before)) =
    first-all (stream (frames_taken before)) (frames.octets frame ++ []) parts in
    (payload-octets frame (first-all (frames.octets frame) [] here), took-octets before earlier)
