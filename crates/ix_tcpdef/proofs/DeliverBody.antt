-- What is told of the peer's stream, over the arrival of a segment.
use Rattle.std.proofs.Common.{◌≡◌, ℕ, ◌+◌, ◌-◌, ◌%◌, ◌^◌, ◌<◌, ◌≤◌, Bool, true, false, if◌then◌else◌, length, take, drop, List, [], ◌∷◌, ◌++◌, map, arith, refl, sym, ap, subst, ◌∙◌, length-take, length-drop, append_assoc}
use Rattle.std.specs.Prelude.{nat_lt, nat_le, ◌&&◌, ◌==◌, not, min, Option, None, Some, ℤ, pos, negsuc, ◌+ℤ◌, ◌-ℤ◌, int_lt}
use Rattle.std.specs.List.{list_all}
use Rattle.std.proofs.lemmas.Bool.{cond_both}
use Rattle.std.proofs.lemmas.Int.{ints}
use Rattle.std.proofs.lemmas.Grind.{common_steps}
use Rattle.std.proofs.lemmas.List.{take-append-drop, drop-drop, drop-append-le, map-append}
use Rattle.ix_base.specs.declared.segment.Seg.{Seg}
use Rattle.ix_base.specs.declared.id.WireNo.{WireNo}
use Rattle.ix_base.specs.Sequence.{number, ahead, offset, past_of, behind_of}
use Rattle.ix_base.specs.Flags.{has_flag}
use Rattle.ix_tcpdef.specs.Connection.{rcv_wnd, seq_of, tells, ended}
use Rattle.ix_tcpdef.specs.Frames.{ack_frame}
use Rattle.ix_tcpdef.specs.Calls.{recv_of}
use Rattle.ix_tcpdef.specs.Body.{octets, delivered, rest_of, holding, filled, is_apart, held_among, waiting, received, takes_body, ends_next, body}
use Rattle.ix_tcpdef.specs.Sound.{is_unknown}
use Rattle.ix_tcpdef.specs.Step.{Moment}
use Rattle.ix_tcpdef.specs.Delivered.{recv_in, recv_from, recvs, Arrived, Came, from_position, AreOf, in_window}
use Rattle.ix_tcpdef.proofs.KeptBody.{takes_body-known}
use Rattle.ix_tcpdef.specs.declared.types.Cfg.{Cfg}
use Rattle.ix_tcpdef.specs.declared.types.State.{State}
use Rattle.ix_tcpdef.specs.declared.types.State.TheVariants as st
use Rattle.ix_tcpdef.specs.declared.types.Connection.{Connection}
use Rattle.ix_tcpdef.specs.declared.types.HeldSegment.{HeldSegment}
use Rattle.ix_tcpdef.specs.declared.types.Piece.{Piece}
use Rattle.ix_tcpdef.specs.declared.types.Octets.{Octets}
use Rattle.ix_tcpdef.specs.declared.types.Job.{Job}
use Rattle.ix_tcpdef.specs.declared.types.Output.{Output}
use Rattle.ix_tcpdef.specs.declared.types.Output.TheVariants as outputs
use Rattle.ix_tcpdef.specs.declared.types.Told.{Told}
use Rattle.ix_base.specs.declared.segment.TheConstants.{FIN}

-- ## Words
abbrev pub total : List Piece → ℕ
total [] = 0
total (p ∷ ps) = length p.bytes + total ps

-- What is known of the segments that came: the moments, the last first, and, where the peer agrees with one, its stream.
pub record Past : Type 0 where
  pub moments : List Moment
  pub peer : Option (List ℕ)

abbrev pub Says : Option (List ℕ) → ℕ → List ℕ → Type 0
Says None at bytes = Unit {0}
Says (Some peer) at bytes = AreOf peer at bytes

-- bytes at a position came, and are the peer's there
pub record CameSo (past : Past) (irs at : ℕ) (w : WireNo) (from : ℕ) (bytes : List ℕ) : Type 0 where
  pub came : Came past.moments irs at w from bytes
  pub says : Says past.peer at bytes

abbrev pub AllCame : Past → ℕ → ℕ → List Piece → Type 0
AllCame past irs at [] = Unit {0}
AllCame past irs at (p ∷ ps) = CameSo past irs at p.w p.from p.bytes × AllCame past irs (at + length p.bytes) ps

-- A segment came whose octets in the window of this connection are the peer's.
pub record Heard (past : Past) (cfg : Cfg) (w : WireNo) (seg : Seg) (c : Connection) : Type 0 where
  pub arrived : Arrived past.moments w seg
  pub says : Says past.peer (in_window cfg c seg).at (in_window cfg c seg).bytes

abbrev pub HeldCame : Past → ℕ → List HeldSegment → Type 0
HeldCame past irs [] = Unit {0}
HeldCame past irs (s ∷ rest) = CameSo past irs s.at s.w s.from s.bytes × HeldCame past irs rest

-- the states in which every octet in order is delivered
abbrev pub is_receiving : State → Bool
is_receiving st.SynReceived = true
is_receiving st.Established = true
is_receiving _ = false

-- the states before the application closes
abbrev pub is_early : State → Bool
is_early st.Listen = true
is_early st.SynSent = true
is_early st.SynReceived = true
is_early st.Established = true
is_early _ = false

-- the states behind an own close in which octets still come
abbrev pub is_finishing : State → Bool
is_finishing st.FinWait1 = true
is_finishing st.FinWait2 = true
is_finishing _ = false

-- What holds of the receiving side while a step is under way. before: the events of the steps before it.
pub record Delivers (past : Past) (before : List Output) (state : State) (irs rcv : ℕ) (accepted shut : Bool) (pieces : List Piece) (held : List HeldSegment) (os : List Output) : Type 0 where
  pub events : map recv_of (if accepted then pieces else []) ≡ before ++ recvs os
  pub none : is_unknown state ≡ true → pieces ≡ []
  pub none_held : is_unknown state ≡ true → held ≡ []
  pub place : is_receiving state ≡ true → rcv ≡ 1 + total pieces
  pub early : is_early state ≡ true → shut ≡ false
  pub late : is_finishing state ≡ true → shut ≡ true
  pub came : AllCame past irs 1 pieces
  pub waits : HeldCame past irs held

abbrev pub DeliversAt : Past → List Output → Connection → List Output → Type 0
DeliversAt past before w os = Delivers past before w.state w.irs w.rcv w.accepted w.shut w.pieces w.held os

pub recvs-append : (os more : List Output) → recvs (os ++ more) ≡ recvs os ++ recvs more
recvs-append [] more = refl
recvs-append (o ∷ os) more =
    ap (λ (t : List Output). recv_from o ++ t) (recvs-append os more) ∙ sym (append_assoc (recv_from o) (recvs os) (recvs more))

pub append-none : (xs : List Output) → xs ++ [] ≡ xs
append-none [] = refl
append-none (x ∷ xs) = ap (λ (t : List Output). x ∷ t) (append-none xs)

-- outputs that name no bytes
pub delivers-silent : (past : Past) (before : List Output) (w : Connection) (os more : List Output) → recvs more ≡ [] → DeliversAt past before w os → DeliversAt past before w (os ++ more)
delivers-silent past before w os more silent d =
    record {
      events = d.events ∙ ap (λ (t : List Output). before ++ t) (sym (append-none (recvs os)) ∙ ap (λ (t : List Output). recvs os ++ t) (sym silent) ∙ sym (recvs-append os more));
      none = d.none;
      none_held = d.none_held;
      place = d.place;
      early = d.early;
      late = d.late;
      came = d.came;
      waits = d.waits;
    }

pub delivers-tells : (past : Past) (before : List Output) (j : Job) (t : Told) → recv_in t ≡ [] → DeliversAt past before j.connection j.outputs → DeliversAt past before (tells j t).connection (tells j t).outputs
delivers-tells past before j t silent d =
    cond_both (j.connection.accepted && not j.connection.shut) _ _ (λ (r : Job). DeliversAt past before r.connection r.outputs)
    (λ _. delivers-silent past before j.connection j.outputs (outputs.Told t ∷ []) (ap (λ (r : List Output). r ++ []) silent) d)
    (λ _. d)

-- another state, in which octets are not delivered in order
pub delivers-state : (past : Past) (before : List Output) (w : Connection) (s : State) (os : List Output) → is_unknown s ≡ false → is_receiving s ≡ false → is_early s ≡ false → (is_finishing s ≡ true → w.shut ≡ true) → DeliversAt past before w os → DeliversAt past before (record w { state = s }) os
delivers-state past before w s os known still after late d =
    record {
      events = d.events;
      none = λ e. let no : true ≡ false = sym e ∙ known in cc;
      none_held = λ e. let no : true ≡ false = sym e ∙ known in cc;
      place = λ e. let no : true ≡ false = sym e ∙ still in cc;
      early = λ e. let no : true ≡ false = sym e ∙ after in cc;
      late = late;
      came = d.came;
      waits = d.waits;
    }

pub delivers-ended : (past : Past) (before : List Output) (w : Connection) (os : List Output) → DeliversAt past before w os → DeliversAt past before (ended w) os
delivers-ended past before w os d =
    record { events = d.events; none = λ e. cc; none_held = λ e. cc; place = λ e. cc; early = λ e. cc; late = λ e. cc; came = d.came; waits = tt }

-- ## Where octets come from
none-first : (xs ys : List ℕ) → [] ≡ xs ++ ys → xs ≡ []
none-first [] ys e = refl
none-first (x ∷ xs) ys e = cc

pub from-later : (at d : ℕ) (peer : List ℕ) → 0 < at → from_position (at + d) peer ≡ drop d (from_position at peer)
from-later at d peer lt =
    let here : from_position at peer ≡ drop (at - 1) peer = grind (arith, common_steps, lt) in
    let later : from_position (at + d) peer ≡ drop (at + d - 1) peer = grind (arith, common_steps, lt) in
    let sum : at + d - 1 ≡ (at - 1) + d = omega arith in
    later ∙ ap (λ n. drop n peer) sum ∙ sym (drop-drop d (at - 1) peer) ∙ ap (λ (t : List ℕ). drop d t) (sym here)

further-of : (peer : List ℕ) (at : ℕ) (bytes : List ℕ) (d : ℕ) → d ≤ length bytes → AreOf peer at bytes → AreOf peer (at + d) (drop d bytes)
further-of peer at bytes d le a = by_place (nat_lt 0 at) refl
  where
    by_place : (b : Bool) → nat_lt 0 at ≡ b → AreOf peer (at + d) (drop d bytes)
    by_place true e =
        record { rest = a.rest; here = from-later at d peer (grind (arith, common_steps, e)) ∙ ap (λ (t : List ℕ). drop d t) a.here ∙ drop-append-le d bytes a.rest le }
    by_place false e =
        let zero_at : at ≡ 0 = grind (arith, common_steps, e) in
        let none : from_position at peer ≡ [] = ap (λ n. from_position n peer) zero_at in
        let empty : bytes ≡ [] = none-first bytes a.rest (sym none ∙ a.here) in
        let size : length bytes ≡ 0 = ap (λ (t : List ℕ). length t) empty in
        let d0 : d ≡ 0 = omega (arith, size, le) in
        let same : at + d ≡ at = omega (arith, d0) in
        subst (λ n. AreOf peer n (drop d bytes)) (sym same) (subst (λ n. AreOf peer at (drop n bytes)) (sym d0) a)

says-further : (p : Option (List ℕ)) (at : ℕ) (bytes : List ℕ) (d : ℕ) → d ≤ length bytes → Says p at bytes → Says p (at + d) (drop d bytes)
says-further None at bytes d le s = tt
says-further (Some peer) at bytes d le s = further-of peer at bytes d le s

came-further : (past : Past) (irs at : ℕ) (w : WireNo) (from : ℕ) (bytes : List ℕ) (d : ℕ) → d ≤ length bytes → CameSo past irs at w from bytes → CameSo past irs (at + d) w (from + d) (drop d bytes)
came-further past irs at w from bytes d le so =
    let c : Came past.moments irs at w from bytes = so.came in
    let place : from ≡ c.seg.head.at + c.k = c.place in
    let seq : number irs at ≡ (c.seg.head.seq + c.k) % 2 ^ 32 = c.seq in
    record {
      came = record {
        seg = c.seg;
        arrived = c.arrived;
        k = c.k + d;
        place = omega arith;
        seq = further irs at c.seg.head.seq c.k d seq;
        rest = c.rest;
        body = sym (drop-drop d c.k c.seg.body) ∙ ap (λ (t : List ℕ). drop d t) c.body ∙ drop-append-le d bytes c.rest le;
      };
      says = says-further past.peer at bytes d le so.says;
    }
  where
    further : (irs at seq k d : ℕ) → number irs at ≡ (seq + k) % 2 ^ 32 → number irs (at + d) ≡ (seq + (k + d)) % 2 ^ 32
    further irs at seq k d e = omega arith

past_neg : (z : ℤ) → int_lt z (pos 0) ≡ true → past_of z ≡ 0
past_neg (pos n) e = grind (arith, ints, e)
past_neg (negsuc n) e = refl

behind_neg : (z : ℤ) (d : ℕ) → z +ℤ pos d ≡ pos 0 → behind_of z ≡ d
behind_neg (pos n) d e = omega (arith, ints, e)
behind_neg (negsuc n) d e = omega (arith, ints, e)

past_sub : (n m : ℕ) → n < m → past_of (pos n -ℤ pos m) ≡ 0
past_sub n m lt = past_neg (pos n -ℤ pos m) (grind (arith, ints))

behind_sub : (n m : ℕ) → n < m → behind_of (pos n -ℤ pos m) ≡ m - n
behind_sub n m lt = behind_neg (pos n -ℤ pos m) (m - n) (omega (arith, ints))

-- the number of the place at which a segment's first octet in the window stands
place-number : (irs rcv seq : ℕ) → number irs (rcv + past_of (offset (number irs rcv) seq)) ≡ (seq + behind_of (offset (number irs rcv) seq)) % 2 ^ 32
place-number irs rcv seq =
    cond_both (nat_lt (ahead (number irs rcv) seq) (2 ^ 31)) _ _ (λ (z : ℤ). number irs (rcv + past_of z) ≡ (seq + behind_of z) % 2 ^ 32)
    (λ _. omega arith)
    (λ far. behind_number (ahead (number irs rcv) seq) (omega arith) (grind (arith, common_steps, far)) (omega arith))
  where
    -- a distance of half of the numbers and more stands for one the other way
    behind_number : (n : ℕ) → n < 2 ^ 32 → 2 ^ 31 ≤ n → (seq + (2 ^ 32 - n)) % 2 ^ 32 ≡ number irs rcv → number irs (rcv + past_of (pos n -ℤ pos (2 ^ 32))) ≡ (seq + behind_of (pos n -ℤ pos (2 ^ 32))) % 2 ^ 32
    behind_number n small far e =
        let p : past_of (pos n -ℤ pos (2 ^ 32)) ≡ 0 = past_sub n (2 ^ 32) small in
        let b : behind_of (pos n -ℤ pos (2 ^ 32)) ≡ 2 ^ 32 - n = behind_sub n (2 ^ 32) small in
        omega (arith, p, b, e)

-- ## Delivery
came-append : (past : Past) (irs at : ℕ) (ps : List Piece) (p : Piece) → AllCame past irs at ps → CameSo past irs (at + total ps) p.w p.from p.bytes → AllCame past irs at (ps ++ p ∷ [])
came-append past irs at [] p c one = (subst (λ n. CameSo past irs n p.w p.from p.bytes) (omega arith) one, tt)
came-append past irs at (q ∷ ps) p c one =
    (c.0, came-append past irs (at + length q.bytes) ps p c.1 (subst (λ n. CameSo past irs n p.w p.from p.bytes) (omega arith) one))

total-append : (ps : List Piece) (p : Piece) → total (ps ++ p ∷ []) ≡ total ps + length p.bytes
total-append [] p = omega arith
total-append (q ∷ ps) p = omega (arith, total-append ps p)

events-more : (a : Bool) (pieces : List Piece) (p : Piece) (before os : List Output) → a ≡ true → map recv_of (if a then pieces else []) ≡ before ++ recvs os → map recv_of (if a then pieces ++ p ∷ [] else []) ≡ before ++ recvs (os ++ recv_of p ∷ [])
events-more false pieces p before os e d = cc
events-more true pieces p before os e d =
    map-append recv_of pieces (p ∷ []) ∙ ap (λ (t : List Output). t ++ recv_of p ∷ []) d ∙ append_assoc before (recvs os) (recv_of p ∷ []) ∙ ap (λ (t : List Output). before ++ t) (sym (recvs-append os (recv_of p ∷ [])))

events-none : (a : Bool) (pieces more : List Piece) (given : List Output) → a ≡ false → map recv_of (if a then pieces else []) ≡ given → map recv_of (if a then more else []) ≡ given
events-none false pieces more given e d = d
events-none true pieces more given e d = cc

receiving : (s : State) (shut : Bool) → takes_body s ≡ true → (is_finishing s ≡ true → shut ≡ true) → shut ≡ false → is_receiving s ≡ true
receiving st.Established shut t late e = refl
receiving st.FinWait1 shut t late e = let no : true ≡ false = sym (late refl) ∙ e in cc
receiving st.FinWait2 shut t late e = let no : true ≡ false = sym (late refl) ∙ e in cc
receiving _ shut t late e = cc

receiving-early : (s : State) → is_receiving s ≡ true → is_early s ≡ true
receiving-early st.SynReceived e = refl
receiving-early st.Established e = refl
receiving-early _ e = cc

-- octets at RCV.NXT that a segment carries there
delivers-delivered : (past : Past) (before : List Output) (o : Octets) (w : WireNo) (j : Job) → takes_body j.connection.state ≡ true → CameSo past j.connection.irs j.connection.rcv w o.from o.bytes → DeliversAt past before j.connection j.outputs → DeliversAt past before (delivered o w j).connection (delivered o w j).outputs
unfolding delivered
delivers-delivered past before o w j body c d =
    let P : Job → Type 0 = λ r. DeliversAt past before r.connection r.outputs in
    let one : Piece = record { w = w; from = o.from; bytes = o.bytes; told = j.connection.accepted } in
    cond_both j.connection.shut _ _ P
    (λ e. record {
      events = d.events;
      none = d.none;
      none_held = d.none_held;
      place = λ r. let no : true ≡ false = sym e ∙ d.early (receiving-early j.connection.state r) in cc;
      early = d.early;
      late = d.late;
      came = d.came;
      waits = d.waits;
    })
    (λ e.
    let here : j.connection.rcv ≡ 1 + total j.connection.pieces = d.place (receiving j.connection.state j.connection.shut body d.late e) in
    let sum : total (j.connection.pieces ++ one ∷ []) ≡ total j.connection.pieces + length o.bytes = total-append j.connection.pieces one in
    let unknown : is_unknown j.connection.state ≡ false = takes_body-known j.connection.state body in
    let came : AllCame past j.connection.irs 1 (j.connection.pieces ++ one ∷ []) = came-append past j.connection.irs 1 j.connection.pieces one d.came (subst (λ n. CameSo past j.connection.irs n w o.from o.bytes) here c) in
    cond_both j.connection.accepted _ _ P
    (λ f. record {
      events = events-more j.connection.accepted j.connection.pieces one before j.outputs f d.events;
      none = λ r. let no : true ≡ false = sym r ∙ unknown in cc;
      none_held = d.none_held;
      place = λ _. omega (arith, here, sum);
      early = d.early;
      late = d.late;
      came = came;
      waits = d.waits;
    })
    (λ f. record {
      events = events-none j.connection.accepted j.connection.pieces (j.connection.pieces ++ one ∷ []) _ f d.events;
      none = λ r. let no : true ≡ false = sym r ∙ unknown in cc;
      none_held = d.none_held;
      place = λ _. omega (arith, here, sum);
      early = d.early;
      late = d.late;
      came = came;
      waits = d.waits;
    }))

pub delivered-state : (o : Octets) (w : WireNo) (j : Job) → (delivered o w j).connection.state ≡ j.connection.state
unfolding delivered
delivered-state o w j =
    let P : Job → Type 0 = λ r. r.connection.state ≡ j.connection.state in
    cond_both j.connection.shut _ _ P (λ _. refl) (λ _. cond_both j.connection.accepted _ _ P (λ _. refl) (λ _. refl))

delivered-irs : (o : Octets) (w : WireNo) (j : Job) → (delivered o w j).connection.irs ≡ j.connection.irs
unfolding delivered
delivered-irs o w j =
    let P : Job → Type 0 = λ r. r.connection.irs ≡ j.connection.irs in
    cond_both j.connection.shut _ _ P (λ _. refl) (λ _. cond_both j.connection.accepted _ _ P (λ _. refl) (λ _. refl))

delivers-holding : (past : Past) (before : List Output) (rest : List HeldSegment) (j : Job) → takes_body j.connection.state ≡ true → HeldCame past j.connection.irs rest → DeliversAt past before j.connection j.outputs → DeliversAt past before (holding rest j).connection (holding rest j).outputs
delivers-holding past before rest j body c d =
    record {
      events = d.events;
      none = d.none;
      none_held = λ r. let no : true ≡ false = sym r ∙ takes_body-known j.connection.state body in cc;
      place = d.place;
      early = d.early;
      late = d.late;
      came = d.came;
      waits = c;
    }

delivers-filled : (past : Past) (before : List Output) (left : List HeldSegment) (fin : Bool) (j : Job) → takes_body j.connection.state ≡ true → HeldCame past j.connection.irs left → DeliversAt past before j.connection j.outputs → DeliversAt past before (filled left fin j).0.connection (filled left fin j).0.outputs
unfolding filled
delivers-filled past before [] fin j body c d = d
delivers-filled past before (s ∷ rest) fin j body c d =
    let P : Job × Bool → Type 0 = λ r. DeliversAt past before r.0.connection r.0.outputs in
    let held : DeliversAt past before (holding rest j).connection (holding rest j).outputs = delivers-holding past before rest j body c.1 d in
    cond_both (nat_lt j.connection.rcv s.at) _ _ P
    (λ _. d)
    (λ after. cond_both (nat_le (s.at + length s.bytes) j.connection.rcv) _ _ P
    (λ _. delivers-filled past before rest fin (holding rest j) body c.1 held)
    (λ more.
    let le : j.connection.rcv - s.at ≤ length s.bytes = grind (arith, common_steps, more) in
    let here : s.at + (j.connection.rcv - s.at) ≡ j.connection.rcv = grind (arith, common_steps, after) in
    let o : Octets = rest_of s j.connection.rcv in
    let came : CameSo past j.connection.irs j.connection.rcv s.w (s.from + (j.connection.rcv - s.at)) (drop (j.connection.rcv - s.at) s.bytes) = subst (λ n. CameSo past j.connection.irs n s.w (s.from + (j.connection.rcv - s.at)) (drop (j.connection.rcv - s.at) s.bytes)) here (came-further past j.connection.irs s.at s.w s.from s.bytes (j.connection.rcv - s.at) le c.0) in
    delivers-filled past before rest s.fin (delivered (rest_of s j.connection.rcv) s.w (holding rest j)) (ap takes_body (delivered-state (rest_of s j.connection.rcv) s.w (holding rest j)) ∙ body) (subst (λ n. HeldCame past n rest) (sym (delivered-irs (rest_of s j.connection.rcv) s.w (holding rest j))) c.1)
    (delivers-delivered past before (rest_of s j.connection.rcv) s.w (holding rest j) body came held)))

came-among : (past : Past) (irs : ℕ) (new : HeldSegment) (held : List HeldSegment) → CameSo past irs new.at new.w new.from new.bytes → HeldCame past irs held → HeldCame past irs (held_among new held)
came-among past irs new [] c h = (c, tt)
came-among past irs new (s ∷ rest) c h =
    cond_both (nat_lt new.at s.at) _ _ (HeldCame past irs) (λ _. (c, h)) (λ _. (h.0, came-among past irs new rest c h.1))

delivers-waiting : (past : Past) (before : List Output) (o : Octets) (w : WireNo) (fin : Bool) (c : Connection) (os : List Output) → takes_body c.state ≡ true → CameSo past c.irs o.at w o.from o.bytes → DeliversAt past before c os → DeliversAt past before (waiting o w fin c) os
unfolding waiting
delivers-waiting past before o w fin c os body came d =
    cond_both (nat_lt (length c.held) 8 && list_all (is_apart o) c.held) _ _ (λ (v : Connection). DeliversAt past before v os)
    (λ _. record {
      events = d.events;
      none = d.none;
      none_held = λ r. let no : true ≡ false = sym r ∙ takes_body-known c.state body in cc;
      place = d.place;
      early = d.early;
      late = d.late;
      came = d.came;
      waits = came-among past c.irs _ c.held came d.waits;
    })
    (λ _. d)

delivers-received : (past : Past) (before : List Output) (cfg : Cfg) (o : Octets) (w : WireNo) (fin : Bool) (j : Job) → takes_body j.connection.state ≡ true → CameSo past j.connection.irs o.at w o.from o.bytes → DeliversAt past before j.connection j.outputs → DeliversAt past before (received cfg o w fin j).0.connection (received cfg o w fin j).0.outputs
unfolding received
delivers-received past before cfg o w fin j body came d =
    let P : Job × Bool → Type 0 = λ r. DeliversAt past before r.0.connection r.0.outputs in
    cond_both (o.at == j.connection.rcv) _ _ P
    (λ e.
    let here : o.at ≡ j.connection.rcv = grind (arith, common_steps, e) in
    delivers-filled past before j.connection.held fin (delivered o w j) (ap takes_body (delivered-state o w j) ∙ body) (subst (λ n. HeldCame past n j.connection.held) (sym (delivered-irs o w j)) d.waits)
    (delivers-delivered past before o w j body (subst (λ n. CameSo past j.connection.irs n w o.from o.bytes) here came) d))
    (λ _. delivers-silent past before (waiting o w fin j.connection) j.outputs (ack_frame cfg j.connection ∷ []) refl (delivers-waiting past before o w fin j.connection j.outputs body came d))

octets-came : (past : List Moment) (w : WireNo) (seg : Seg) (cfg : Cfg) (c : Connection) → Arrived past w seg → (length (in_window cfg c seg).bytes == 0) ≡ false → Came past c.irs (in_window cfg c seg).at w (in_window cfg c seg).from (in_window cfg c seg).bytes
unfolding octets
octets-came past w seg cfg c arrived some = by_place (past_of (seq_of c seg.head)) (behind_of (seq_of c seg.head)) (place-number c.irs c.rcv seg.head.seq) some
  where
    by_place : (p b : ℕ) → number c.irs (c.rcv + p) ≡ (seg.head.seq + b) % 2 ^ 32 → (length (take (cfg.window - c.unread - p) (drop b seg.body)) == 0) ≡ false → Came past c.irs (c.rcv + p) w (seg.head.at + min b (length seg.body)) (take (cfg.window - c.unread - p) (drop b seg.body))
    by_place p b seq some =
        let cut : length (take (cfg.window - c.unread - p) (drop b seg.body)) ≡ min (cfg.window - c.unread - p) (length (drop b seg.body)) = length-take _ (drop b seg.body) in
        let rest : length (drop b seg.body) ≡ length seg.body - b = length-drop b seg.body in
        let more : 0 < length (take (cfg.window - c.unread - p) (drop b seg.body)) = grind (arith, common_steps, some) in
        record {
          seg = seg;
          arrived = arrived;
          k = b;
          place = omega (arith, cut, rest, more);
          seq = seq;
          rest = drop (cfg.window - c.unread - p) (drop b seg.body);
          body = sym (take-append-drop (cfg.window - c.unread - p) (drop b seg.body));
        }

pub delivers-body : (past : Past) (before : List Output) (cfg : Cfg) (w : WireNo) (seg : Seg) (j : Job) → Heard past cfg w seg j.connection → DeliversAt past before j.connection j.outputs → DeliversAt past before (body cfg w seg j).0.connection (body cfg w seg j).0.outputs
unfolding body
delivers-body past before cfg w seg j heard d = by_test (takes_body j.connection.state) refl
  where
    by_test : (a : Bool) → takes_body j.connection.state ≡ a → DeliversAt past before (if not a then (j, ends_next seg j.connection) else (let o : Octets = octets j.connection.rcv (rcv_wnd cfg j.connection) (seq_of j.connection seg.head) seg.head.at seg.body in if length o.bytes == 0 then (j, ends_next seg j.connection) else received cfg o w (has_flag seg.head.flags FIN && o.whole) j)).0.connection (if not a then (j, ends_next seg j.connection) else (let o : Octets = octets j.connection.rcv (rcv_wnd cfg j.connection) (seq_of j.connection seg.head) seg.head.at seg.body in if length o.bytes == 0 then (j, ends_next seg j.connection) else received cfg o w (has_flag seg.head.flags FIN && o.whole) j)).0.outputs
    by_test false e = d
    by_test true e =
        let P : Job × Bool → Type 0 = λ r. DeliversAt past before r.0.connection r.0.outputs in
        let o : Octets = octets j.connection.rcv (rcv_wnd cfg j.connection) (seq_of j.connection seg.head) seg.head.at seg.body in
        cond_both (length o.bytes == 0) _ _ P (λ _. d)
        (λ some. delivers-received past before cfg o w _ j e (record { came = octets-came past.moments w seg cfg j.connection heard.arrived some; says = heard.says }) d)

pub filled-state : (left : List HeldSegment) (fin : Bool) (j : Job) → (filled left fin j).0.connection.state ≡ j.connection.state
unfolding filled
filled-state [] fin j = refl
filled-state (s ∷ rest) fin j =
    let P : Job × Bool → Type 0 = λ r. r.0.connection.state ≡ j.connection.state in
    cond_both (nat_lt j.connection.rcv s.at) _ _ P (λ _. refl)
    (λ _. cond_both (nat_le (s.at + length s.bytes) j.connection.rcv) _ _ P
    (λ _. filled-state rest fin (holding rest j))
    (λ _. filled-state rest s.fin (delivered (rest_of s j.connection.rcv) s.w (holding rest j)) ∙ delivered-state (rest_of s j.connection.rcv) s.w (holding rest j)))

pub waiting-state : (o : Octets) (w : WireNo) (fin : Bool) (c : Connection) → (waiting o w fin c).state ≡ c.state
unfolding waiting
waiting-state o w fin c =
    cond_both (nat_lt (length c.held) 8 && list_all (is_apart o) c.held) _ _ (λ (v : Connection). v.state ≡ c.state) (λ _. refl) (λ _. refl)
