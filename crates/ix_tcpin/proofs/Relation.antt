-- Arrival over numbers beside arrival over positions.
use Rattle.std.proofs.Common.{◌≡◌, ℕ, ◌+◌, ◌-◌, Bool, true, false, List, [], ◌∷◌, ◌++◌, drop, refl, ap, sym, subst, ◌∙◌, append-nil, inl, inr}
use Rattle.std.proofs.lemmas.Bool.{cases_Bool}
use Rattle.std.specs.Prelude.{map, Option, None, not, ◌&&◌}
use Rattle.ix_base.specs.declared.id.WireNo.{WireNo}
use Rattle.ix_base.specs.declared.segment.Seg.{Seg}
use Rattle.ix_base.specs.declared.segment.SegHead.{SegHead}
use Rattle.ix_tcpdef.specs.Arrival.{Next, Goes, Stops, ◌>>=◌, job_of}
use Rattle.ix_tcpdef.specs.Connection.{acked_data, is_closed, ended}
use Rattle.ix_tcpdef.specs.declared.types.Connection.{Connection}
use Rattle.ix_tcpdef.specs.declared.types.HeldSegment.{HeldSegment}
use Rattle.ix_tcpdef.specs.declared.types.Job.{Job}
use Rattle.ix_tcpdef.specs.declared.types.Output.{Output}
use Rattle.ix_tcpdef.specs.declared.types.Output.TheVariants as outputs
use Rattle.ix_tcpdef.specs.declared.types.Piece.{Piece}
use Rattle.ix_tcpdef.specs.declared.types.Told.{Told}
use Rattle.ix_tcpdef.specs.Stands.{tcb_of, head_of}
use Rattle.ix_tcpin.specs.declared.verdict.HeldUse.{HeldUse}
use Rattle.ix_tcpin.specs.declared.verdict.HeldUse.TheVariants as uses
use Rattle.ix_tcpin.specs.declared.verdict.Take.TheVariants as takes
use Rattle.ix_tcpin.specs.declared.verdict.Verdict.{Verdict}
use Rattle.ix_tcpin.specs.Work.{Work, work, Course, Onward, Done, along, work_of, keep, dropped, let_go, closed}
use Rattle.ix_tcpin.specs.Verdict.{held_pieces, kept_held, pieces_of, held_of, is_end, first_told, last_told, reply_of, outputs_of, has_ended}

-- ## While the body is not looked at
-- the verdict so far: nothing is made of the body, and what is held stays so
abbrev pub so_far : Connection → ℕ → List Told → Verdict
so_far w acked es =
    record { reply = None; take = takes.Nothing; held = record { items = map keep (map (head_of w.irs) w.held) }; acked = acked; told = record { items = es }; ended = false }

abbrev pub at : Connection → Job → List Told → Work
at w j es = work (tcb_of j.connection) (so_far w (acked_data j.connection - acked_data w) es)

-- what only the body and the FIN change
pub record SameText (w v : Connection) : Type 0 where
  pub pieces : v.pieces ≡ w.pieces
  pub held : v.held ≡ w.held
  pub rcv : v.rcv ≡ w.rcv
  pub irs : v.irs ≡ w.irs
  pub accepted : v.accepted ≡ w.accepted

-- the segment goes on; w: the connection before it; es: what was told
pub record Agrees (w : Connection) (j : Job) (es : List Told) : Type 0 where
  pub same : SameText w j.connection
  pub first : first_told es ≡ j.outputs
  pub last : last_told es ≡ []
  pub before : is_closed w.state ≡ false
  pub alive : is_closed j.connection.state ≡ false

-- ## At the end
pub record Says (w : Connection) (n : WireNo) (seg : Seg) (k : Work) (j : Job) : Type 0 where
  pub numbers : k.numbers ≡ tcb_of j.connection
  pub outputs : outputs_of w n seg k.verdict ≡ j.outputs
  pub pieces : j.connection.pieces ≡ w.pieces ++ pieces_of w n seg k.verdict
  pub held : j.connection.held ≡ held_of w n seg k.verdict
  pub acked : k.verdict.acked ≡ acked_data j.connection - acked_data w
  pub ended : k.verdict.ended ≡ has_ended w j.connection

-- ## Courses
abbrev pub Leads : (Work → Job → Type 0) → (Work → Job → Type 0) → Course → Next → Type 0
Leads R S (Onward k) (Goes j) = R k j
Leads R S (Done k) (Stops j) = S k j
Leads R S _ _ = ⊥

pub leads-then : (R Q S : Work → Job → Type 0) (a : Course) (b : Next) (f : Work → Course) (g : Job → Next) → Leads R S a b → ((k : Work) (j : Job) → R k j → Leads Q S (f k) (g j)) → Leads Q S (along a f) (b >>= g)
leads-then R Q S (Onward k) (Goes j) f g l more = more k j l
leads-then R Q S (Onward k) (Stops j) f g l more = elim l [ ]
leads-then R Q S (Done k) (Goes j) f g l more = elim l [ ]
leads-then R Q S (Done k) (Stops j) f g l more = l

-- a part that leaves everything as it was where the segment goes on
pub record IsSame (k : Work) (j : Job) (l : Work) (i : Job) : Type 0 where
  pub work : l ≡ k
  pub job : i ≡ j

pub leads-same : (Q S : Work → Job → Type 0) (k : Work) (j : Job) (a : Course) (b : Next) (f : Work → Course) (g : Job → Next) → Leads (IsSame k j) S a b → Leads Q S (f k) (g j) → Leads Q S (along a f) (b >>= g)
leads-same Q S k j a b f g l more =
    leads-then (IsSame k j) Q S a b f g l
    (λ i h same. subst (λ (x : Work). Leads Q S (f x) (g h)) (sym same.work) (subst (λ (x : Job). Leads Q S (f k) (g x)) (sym same.job) more))

pub leads-end : (S : Work → Job → Type 0) (a : Course) (b : Next) → Leads S S a b → S (work_of a) (job_of b)
leads-end S (Onward k) (Goes j) l = l
leads-end S (Onward k) (Stops j) l = elim l [ ]
leads-end S (Done k) (Goes j) l = elim l [ ]
leads-end S (Done k) (Stops j) l = l

-- ## What is held
pub keep-pieces : (b : Bool) (irs : ℕ) (ss : List HeldSegment) → held_pieces b ss (map keep (map (head_of irs) ss)) ≡ []
keep-pieces b irs [] = refl
keep-pieces b irs (s ∷ ss) = keep-pieces b irs ss

pub keep-held : (irs : ℕ) (ss : List HeldSegment) → kept_held ss (map keep (map (head_of irs) ss)) ≡ ss
keep-held irs [] = refl
keep-held irs (s ∷ ss) = ap (λ (l : List HeldSegment). s ∷ l) (keep-held irs ss)

pub dropped-pieces : (b : Bool) (ss : List HeldSegment) (us : List HeldUse) → held_pieces b ss (map dropped us) ≡ held_pieces b ss us
dropped-pieces b [] us = refl
dropped-pieces b (s ∷ ss) [] = refl
dropped-pieces b (s ∷ ss) (uses.Keep ∷ us) = dropped-pieces b ss us
dropped-pieces b (s ∷ ss) (uses.Deliver from ∷ us) = ap (λ (l : List Piece). record { w = s.w; from = s.from + from; bytes = drop from s.bytes; told = b } ∷ l) (dropped-pieces b ss us)
dropped-pieces b (s ∷ ss) (uses.Drop ∷ us) = dropped-pieces b ss us

pub dropped-held : (ss : List HeldSegment) (us : List HeldUse) → kept_held ss (map dropped us) ≡ []
dropped-held [] us = refl
dropped-held (s ∷ ss) [] = refl
dropped-held (s ∷ ss) (uses.Keep ∷ us) = dropped-held ss us
dropped-held (s ∷ ss) (uses.Deliver from ∷ us) = dropped-held ss us
dropped-held (s ∷ ss) (uses.Drop ∷ us) = dropped-held ss us

-- ## What is told
pub first-more : (es : List Told) (e : Told) → is_end e ≡ false → first_told (es ++ e ∷ []) ≡ first_told es ++ outputs.Told e ∷ []
first-more [] e other = rw other refl
first-more (d ∷ es) e other =
    elim (cases_Bool (is_end d)) [
      | inl last ↦ rw last (first-more es e other)
      | inr before ↦ rw before (ap (λ (l : List Output). outputs.Told d ∷ l) (first-more es e other))
    ]

pub last-more : (es : List Told) (e : Told) → is_end e ≡ false → last_told (es ++ e ∷ []) ≡ last_told es
last-more [] e other = rw other refl
last-more (d ∷ es) e other =
    elim (cases_Bool (is_end d)) [
      | inl last ↦ rw last (ap (λ (l : List Output). outputs.Told d ∷ l) (last-more es e other))
      | inr before ↦ rw before (last-more es e other)
    ]

-- ## A segment that is done with
pub said : (w : Connection) (n : WireNo) (seg : Seg) (c : Connection) (v : Verdict) (os : List Output) → v.take ≡ takes.Nothing → held_pieces w.accepted w.held v.held.items ≡ [] → kept_held w.held v.held.items ≡ c.held → first_told v.told.items ≡ os → last_told v.told.items ≡ [] → c.pieces ≡ w.pieces → v.acked ≡ acked_data c - acked_data w → v.ended ≡ has_ended w c → Says w n seg (work (tcb_of c) v) (record { connection = c; outputs = os ++ reply_of v.reply })
said w n seg c v os none quiet held first last pieces acked over =
    record {
      numbers = refl;
      outputs = rw (none, quiet, first, last) (simp append-nil);
      pieces = rw (none, quiet) (pieces ∙ sym (append-nil w.pieces));
      held = rw none (sym held);
      acked = acked;
      ended = over;
    }

pub lives : (w c : Connection) → is_closed c.state ≡ false → false ≡ has_ended w c
lives w c alive = rw alive (by_test (not (is_closed w.state)))
  where
    by_test : (b : Bool) → false ≡ (b && false)
    by_test true = refl
    by_test false = refl

-- it is answered, or is not
pub says-answered : (w : Connection) (n : WireNo) (seg : Seg) (j : Job) (es : List Told) (c : Connection) (o : Option SegHead) → Agrees w j es → SameText w c → is_closed c.state ≡ false → acked_data c ≡ acked_data j.connection → Says w n seg (work (tcb_of c) (record (so_far w (acked_data j.connection - acked_data w) es) { reply = o })) (record { connection = c; outputs = j.outputs ++ reply_of o })
says-answered w n seg j es c o a same alive acked =
    said w n seg c (record (so_far w (acked_data j.connection - acked_data w) es) { reply = o }) j.outputs refl (keep-pieces w.accepted w.irs w.held) (keep-held w.irs w.held ∙ sym same.held) a.first a.last same.pieces (ap (λ n. n - acked_data w) (sym acked)) (lives w c alive)

-- nothing more comes of it
pub says-nothing : (w : Connection) (n : WireNo) (seg : Seg) (j : Job) (es : List Told) → Agrees w j es → Says w n seg (at w j es) j
says-nothing w n seg j es a =
    subst (λ (os : List Output). Says w n seg (at w j es) (record { connection = j.connection; outputs = os })) (append-nil j.outputs)
    (says-answered w n seg j es j.connection None a a.same a.alive refl)

-- it ends the connection
pub says-ended : (w : Connection) (n : WireNo) (seg : Seg) (j : Job) (es ds : List Told) (os : List Output) → Agrees w j es → first_told ds ≡ os → last_told ds ≡ [] → Says w n seg (work (closed (tcb_of j.connection)) (record (let_go (so_far w (acked_data j.connection - acked_data w) ds)) { ended = true })) (record { connection = ended j.connection; outputs = os })
says-ended w n seg j es ds os a first last =
    subst (λ (l : List Output). Says w n seg (work (closed (tcb_of j.connection)) (record (let_go (so_far w (acked_data j.connection - acked_data w) ds)) { ended = true })) (record { connection = ended j.connection; outputs = l })) (append-nil os)
    (said w n seg (ended j.connection) (record (let_go (so_far w (acked_data j.connection - acked_data w) ds)) { ended = true }) os refl (dropped-pieces w.accepted w.held (map keep (map (head_of w.irs) w.held)) ∙ keep-pieces w.accepted w.irs w.held) (dropped-held w.held (map keep (map (head_of w.irs) w.held))) first last a.same.pieces refl (rw a.before refl))
