-- What waits behind an open tag.
use Rattle.std.proofs.Common.{◌≡◌, ℕ, suc, ◌≤◌, Bool, true, false, cond, not, List, [], ◌∷◌, ◌++◌, map, length, refl, sym, ap, ◌∙◌, subst, arith, append_assoc}
use Rattle.std.specs.Prelude.{◌==◌, ◌&&◌, if◌then◌else◌, nat_le, nat_lt, Option, Some, None, filter, slice_get}
use Rattle.std.specs.List.{AllByRecursion}
use Rattle.std.proofs.lemmas.Bool.Decides.{nat_tests}
use Rattle.std.proofs.lemmas.List.Elements.{filter-append}
use Rattle.ix_base.specs.declared.id.WireNo.{WireNo}
use Rattle.ix_mbuf.specs.declared.name.Name.{Name}
use Rattle.ix_order.specs.Wire.{Entry, entries}
use Rattle.ix_order.specs.Wire as wire
use Rattle.ix_stack.specs.declared.work.Work.{Work}
use Rattle.ix_stack.specs.declared.work.Work.TheVariants as works
use Rattle.ix_lines.specs.declared.types.EntryLine.{EntryLine}
use Rattle.ix_lines.specs.declared.types.EntryLine.TheVariants as lines
use Rattle.ix_lines.specs.declared.types.Fate.{Fate}
use Rattle.ix_lines.specs.declared.types.Fate.TheVariants as fates
use Rattle.ix_fits.specs.Card.{entry_of}
use Rattle.ix_fits.specs.Owners.{is_accepted, waiting_from, waits}
use Rattle.ix_plainstack.specs.Batches.{work_number}
use Rattle.ix_plainstack.specs.Standing.{AreNamed, numbers_of}
use Rattle.ix_settled.specs.Cuts.{frames_among}
use Rattle.ix_settled.proofs.Below.{RiseNumbers}
use Rattle.ix_settled.proofs.Dues.{get-past, length-last, named-frame, test-swap, work_in, work_of}
use Rattle.ix_settled.proofs.Numbers.{below_test, cancel, filter-none, ge-test}

-- ## The numbers from one on
abbrev pub from_test : ℕ → ℕ → Bool
from_test r v = not (nat_lt v r)

-- numbers that rise from one on that isn't below r are none below it
all-from : (n r : ℕ) (vs : List ℕ) → r ≤ n → RiseNumbers n vs → AllByRecursion (λ v. r ≤ v) vs
all-from n r [] le rise = tt
all-from n r (v ∷ vs) le rise = let first = rise.0 in (omega (arith, first, le), all-from (suc v) r vs (omega (arith, first, le)) rise.1)

keep-from : (r : ℕ) (vs : List ℕ) → AllByRecursion (λ v. r ≤ v) vs → filter (from_test r) vs ≡ vs
keep-from r [] h = refl
keep-from r (v ∷ vs) h = rw (ge-test v r h.0) (ap (λ ws. v ∷ ws) (keep-from r vs h.1))

-- numbers that rise are those below one, and then the others
split-at : (n r : ℕ) (vs : List ℕ) → RiseNumbers n vs → vs ≡ filter (below_test r) vs ++ filter (from_test r) vs
split-at n r [] rise = refl
split-at n r (v ∷ vs) rise = by_test (nat_lt v r) refl (split-at (suc v) r vs rise.1)
  where
    by_test : (q : Bool) → nat_lt v r ≡ q → vs ≡ filter (below_test r) vs ++ filter (from_test r) vs
        → v ∷ vs ≡ cond q (v ∷ filter (below_test r) vs) (filter (below_test r) vs) ++ cond (not q) (v ∷ filter (from_test r) vs) (filter (from_test r) vs)
    by_test true e rest = ap (λ ws. v ∷ ws) rest
    by_test false e rest =
        let all = all-from (suc v) r vs (let far = far-of v r e in omega (arith, far)) rise.1 in
        sym (ap (λ ws. ws ++ (v ∷ filter (from_test r) vs)) (filter-none r vs all) ∙ ap (λ ws. v ∷ ws) (keep-from r vs all))
      where
        far-of : (v r : ℕ) → nat_lt v r ≡ false → r ≤ v
        far-of v r e = grind (arith, nat_tests)

pub rest-is : (r : ℕ) (vs front rest : List ℕ) → RiseNumbers 0 vs → front ++ rest ≡ vs → front ≡ filter (below_test r) vs → rest ≡ filter (from_test r) vs
rest-is r vs front rest rise whole is = cancel front rest (filter (from_test r) vs) (whole ∙ split-at 0 r vs rise ∙ ap (λ ws. ws ++ filter (from_test r) vs) (sym is))

-- ## Frames among numbers
abbrev pub frame_at : ℕ → Option EntryLine → List WireNo
frame_at w (Some (lines.Frame rec at group ring fate)) = record { 0 = w } ∷ []
frame_at w (Some (lines.Time t)) = []
frame_at w (Some (lines.Tag group)) = []
frame_at w (Some (lines.Move group to)) = []
frame_at w (Some lines.Settle) = []
frame_at w None = []

abbrev pub frames_at : List EntryLine → List ℕ → List WireNo
frames_at all [] = []
frames_at all (v ∷ vs) = frame_at v (slice_get all v) ++ frames_at all vs

frames-append : (all : List EntryLine) (xs ys : List ℕ) → frames_at all (xs ++ ys) ≡ frames_at all xs ++ frames_at all ys
frames-append all [] ys = refl
frames-append all (x ∷ xs) ys = ap (λ z. frame_at x (slice_get all x) ++ z) (frames-append all xs ys) ∙ sym (append_assoc (frame_at x (slice_get all x)) (frames_at all xs) (frames_at all ys))

le-not : (r w : ℕ) → nat_le r w ≡ not (nat_lt w r)
le-not r w = by_test (nat_lt w r) refl
  where
    by_test : (q : Bool) → nat_lt w r ≡ q → nat_le r w ≡ not q
    by_test true e = grind (arith, nat_tests)
    by_test false e = grind (arith, nat_tests)

-- one entry
one-waits : (all : List EntryLine) (g r w : ℕ) (l : EntryLine) → slice_get all w ≡ Some l
    → (if waits g r w l then record { 0 = w } ∷ [] else []) ≡ frames_at all (filter (from_test r) (wire.entry_of g w (entry_of l)))
one-waits all g r w (lines.Frame rec at group ring fate) line = by_fate fate line (group.0 == g) refl
  where
    by_number : (q : Bool) (fate : Fate) → slice_get all w ≡ Some (lines.Frame rec at group ring fate) → (if q then record { 0 = w } ∷ [] else []) ≡ frames_at all (cond q (w ∷ []) [])
    by_number true fate line = sym (ap (λ (l : Option EntryLine). frame_at w l ++ []) line)
    by_number false fate line = refl

    by_fate : (fate : Fate) → slice_get all w ≡ Some (lines.Frame rec at group ring fate) → (q : Bool) → (group.0 == g) ≡ q
        → (if ((group.0 == g) && is_accepted fate) && nat_le r w then record { 0 = w } ∷ [] else []) ≡ frames_at all (filter (from_test r) (wire.entry_of g w (entry_of (lines.Frame rec at group ring fate))))
    by_fate (fates.Buf b) line true e = rw (e, test-swap g group.0 ∙ e, le-not r w) (by_number (not (nat_lt w r)) (fates.Buf b) line)
    by_fate (fates.Buf b) line false e = rw (e, test-swap g group.0 ∙ e) refl
    by_fate (fates.RingFull n) line true e = rw e refl
    by_fate (fates.RingFull n) line false e = rw e refl
    by_fate (fates.NoBuffer n) line true e = rw e refl
    by_fate (fates.NoBuffer n) line false e = rw e refl
    by_fate (fates.TooLong n) line true e = rw e refl
    by_fate (fates.TooLong n) line false e = rw e refl
one-waits all g r w (lines.Time t) line = by_test (not (nat_lt w r))
  where
    by_test : (q : Bool) → [] ≡ frames_at all (cond q (w ∷ []) [])
    by_test true = sym (ap (λ (l : Option EntryLine). frame_at w l ++ []) line)
    by_test false = refl
one-waits all g r w (lines.Tag group) line = refl
one-waits all g r w (lines.Move group to) line = refl
one-waits all g r w lines.Settle line = refl

pub waits-are : (all : List EntryLine) (g r w : ℕ) (past ls later : List EntryLine) → all ≡ past ++ (ls ++ later) → length past ≡ w
    → waiting_from g r w ls ≡ frames_at all (filter (from_test r) (entries g w (map entry_of ls)))
waits-are all g r w past [] later is len = refl
waits-are all g r w past (l ∷ ls) later is len =
    let line = ap (λ (z : List EntryLine). slice_get z w) is ∙ subst (λ n. slice_get (past ++ (l ∷ (ls ++ later))) n ≡ Some l) len (get-past past l (ls ++ later)) in
    ap (λ z. z ++ waiting_from g r (suc w) ls) (one-waits all g r w l line)
    ∙ ap (λ z. frames_at all (filter (from_test r) (wire.entry_of g w (entry_of l))) ++ z) (waits-are all g r (suc w) (past ++ l ∷ []) ls later (is ∙ sym (append_assoc past (l ∷ []) (ls ++ later))) (length-last past l ∙ ap suc len))
    ∙ sym (frames-append all (filter (from_test r) (wire.entry_of g w (entry_of l))) (filter (from_test r) (entries g (suc w) (map entry_of ls))))
    ∙ ap (frames_at all) (sym (filter-append (from_test r) (wire.entry_of g w (entry_of l)) (entries g (suc w) (map entry_of ls))))

-- ## Items
module _ (frames : List (List ℕ)) (name : WireNo → Name) (all : List EntryLine) where
  abbrev pub IsOf : Work → Type 0
  IsOf x = x ≡ work_of frames name all (work_number x)

  pub items-are : (items : List Work) → AllByRecursion IsOf items → frames_at all (map work_number items) ≡ numbers_of (frames_among items)
  items-are [] h = refl
  items-are (works.Frame t ∷ items) h = ap (λ z. z ++ frames_at all (map work_number items)) (by_entry (slice_get all t.w.0) h.0) ∙ ap (λ z. t.w ∷ z) (items-are items h.1)
    where
      by_entry : (l : Option EntryLine) → works.Frame t ≡ work_in frames name t.w.0 l → frame_at t.w.0 l ≡ t.w ∷ []
      by_entry (Some (lines.Frame rec at group ring fate)) e = refl
      by_entry (Some (lines.Time u)) e = absurd (cc)
      by_entry (Some (lines.Tag group)) e = absurd (cc)
      by_entry (Some (lines.Move group to)) e = absurd (cc)
      by_entry (Some lines.Settle) e = absurd (cc)
      by_entry None e = absurd (cc)
  items-are (works.Time w now ∷ items) h = ap (λ z. z ++ frames_at all (map work_number items)) (by_entry (slice_get all w.0) h.0) ∙ items-are items h.1
    where
      by_entry : (l : Option EntryLine) → works.Time w now ≡ work_in frames name w.0 l → frame_at w.0 l ≡ []
      by_entry (Some (lines.Frame rec at group ring fate)) e = absurd (cc)
      by_entry (Some (lines.Time u)) e = refl
      by_entry (Some (lines.Tag group)) e = refl
      by_entry (Some (lines.Move group to)) e = refl
      by_entry (Some lines.Settle) e = refl
      by_entry None e = refl

  pub items-named : (items : List Work) → AllByRecursion IsOf items → AreNamed name (frames_among items)
  items-named [] h = tt
  items-named (works.Frame t ∷ items) h = (named-frame frames name all t h.0, items-named items h.1)
  items-named (works.Time w now ∷ items) h = items-named items h.1
