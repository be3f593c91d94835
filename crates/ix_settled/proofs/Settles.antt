-- The settles before an entry that is stepped between two settles.
use Rattle.std.proofs.Common.{◌≡◌, ◌⊎◌, inl, inr, ℕ, suc, zero, ◌+◌, ◌-◌, ◌<◌, ◌≤◌, Bool, true, false, List, [], ◌∷◌, ◌++◌, fold, take, length, refl, sym, ap, ◌∙◌, subst, arith, append_assoc, append-nil}
use Rattle.std.specs.Prelude.{◌==◌, ◌||◌, if◌then◌else◌, Option, Some, None, is_some}
use Rattle.std.specs.List.{list_any}
use Rattle.std.proofs.lemmas.List.{length-append, take-append-le}
use Rattle.ix_lines.specs.declared.types.EntryLine.{EntryLine}
use Rattle.ix_lines.specs.declared.types.EntryLine.TheVariants as lines
use Rattle.ix_order.specs.Steppers.{tagged_by}
use Rattle.ix_fits.specs.Card.{entry_of}
use Rattle.ix_fits.specs.Cutting.{Stage, first_stage, is_settle, reach, reach_from, stage_after, tag_after, up_to}
use Rattle.ix_settled.proofs.Dues.{fold-last, length-last, stage_at, take-past}
use Rattle.ix_settled.proofs.Numbers.{reach-append, tag-most, tag-some, tag_behind}

abbrev stage : ℕ → List EntryLine → Stage
stage g past = fold (stage_after g) first_stage past

-- No settle without an open tag stands between the open tag and the end.
pub record Window (g : ℕ) (past : List EntryLine) (n : ℕ) (o : Option ℕ) : Type 0 where
  pub is_open : (stage g past).open_tag ≡ is_some o
  pub same : (w : ℕ) → up_to n o ≤ w → w ≤ n → (stage g (take w past)).settles ≡ (stage g past).settles

cases-last : (w n : ℕ) → w ≤ suc n → (w ≡ suc n) ⊎ (w ≤ n)
cases-last w n le = grind arith

-- where the window goes on, it began before, and the settles are as many
pub record Kept (g n w : ℕ) (st : Stage) (o : Option ℕ) (l : EntryLine) : Type 0 where
  pub settles : st.settles ≡ (stage_after g st l).settles
  pub within : up_to n o ≤ w

open-kept : (g n w : ℕ) (st : Stage) (o : Option ℕ) (l : EntryLine) → is_settle l ≡ false → up_to (suc n) o ≤ w → w ≤ n → Kept g n w st o l
open-kept g n w st None l plain le lt = absurd (omega (arith, le, lt))
open-kept g n w st (Some t) l plain le lt = record { settles = rw plain refl; within = le }

kept : (g n w : ℕ) (st : Stage) (o : Option ℕ) (l : EntryLine) → st.open_tag ≡ is_some o → up_to n o ≤ n → up_to (suc n) (tag_after g n o l) ≤ w → w ≤ n → Kept g n w st o l
kept g n w st o (lines.Frame rec at group ring fate) op most le lt = open-kept g n w st o (lines.Frame rec at group ring fate) refl le lt
kept g n w st o (lines.Time t) op most le lt = open-kept g n w st o (lines.Time t) refl le lt
kept g n w st None lines.Settle op most le lt = absurd (omega (arith, le, lt))
kept g n w st (Some t) lines.Settle op most le lt = record { settles = rw op refl; within = le }
kept g n w st o (lines.Tag group) op most le lt = by_group (group.0 == g) le
  where
    by_group : (q : Bool) → up_to (suc n) (if q then Some n else o) ≤ w → Kept g n w st o (lines.Tag group)
    by_group true le = record { settles = refl; within = omega (arith, most, le) }
    by_group false le = open-kept g n w st o (lines.Tag group) refl le lt
kept g n w st o (lines.Move group to) op most le lt = by_group (group.0 == g) le
  where
    by_group : (q : Bool) → up_to (suc n) (if q then None else o) ≤ w → Kept g n w st o (lines.Move group to)
    by_group true le = absurd (omega (arith, le, lt))
    by_group false le = open-kept g n w st o (lines.Move group to) refl le lt

take-all : {X : Type 0} (xs : List X) → take (length xs) xs ≡ xs
take-all xs = ap (take (length xs)) (sym (append-nil xs)) ∙ take-past xs []

window-next : (g n : ℕ) (past : List EntryLine) (o : Option ℕ) (l : EntryLine) → length past ≡ n → up_to n o ≤ n → Window g past n o → Window g (past ++ l ∷ []) (suc n) (tag_after g n o l)
window-next g n past o l len most win = record {
  is_open = ap (λ (s : Stage). s.open_tag) (fold-last (stage_after g) first_stage past l) ∙ ap (λ b. tagged_by g b (entry_of l)) win.is_open ∙ sym (tag-some g n o l);
  same = λ w le lt. by_place w le (cases-last w n lt);
}
  where
    by_place : (w : ℕ) → up_to (suc n) (tag_after g n o l) ≤ w → (w ≡ suc n) ⊎ (w ≤ n) → (stage g (take w (past ++ l ∷ []))).settles ≡ (stage g (past ++ l ∷ [])).settles
    by_place w le (inl last) =
        let all : length (past ++ l ∷ []) ≡ w = length-last past l ∙ ap suc len ∙ sym last in
        ap (λ (z : List EntryLine). (stage g z).settles) (ap (λ m. take m (past ++ l ∷ [])) (sym all) ∙ take-all (past ++ l ∷ []))
    by_place w le (inr before) =
        let k = kept g n w (stage g past) o l win.is_open most le before in
        ap (λ (z : List EntryLine). (stage g z).settles) (take-append-le w past (l ∷ []) (omega (arith, len, before)))
        ∙ win.same w k.within before ∙ k.settles ∙ sym (ap (λ (s : Stage). s.settles) (fold-last (stage_after g) first_stage past l))

windows : (g n v : ℕ) (past ls : List EntryLine) (o : Option ℕ) → length past ≡ n → n + length ls ≡ v → up_to n o ≤ n → Window g past n o → Window g (past ++ ls) v (tag_behind g n o ls)
windows g n v past [] o len end most win =
    let same : n ≡ v = omega (arith, end) in
    subst (λ (z : List EntryLine). Window g z v o) (sym (append-nil past)) (subst (λ m. Window g past m o) same win)
windows g n v past (l ∷ ls) o len end most win =
    let next = windows g (suc n) v (past ++ l ∷ []) ls (tag_after g n o l) (length-last past l ∙ ap suc len) (omega (arith, end)) (tag-most g n (suc n) o (l ∷ []) most (omega arith)) (window-next g n past o l len most win) in
    subst (λ (z : List EntryLine). Window g z v (tag_behind g (suc n) (tag_after g n o l) ls)) (append_assoc past (l ∷ []) ls) next

pub reach-is : (g w v : ℕ) (o : Option ℕ) (ls : List EntryLine) → w + length ls ≡ v → reach_from g w o ls ≡ up_to v (tag_behind g w o ls)
reach-is g w v o ls e = ap (reach_from g w o) (sym (append-nil ls)) ∙ reach-append g w v o ls [] e

window-at : (g : ℕ) (done : List EntryLine) → Window g done (length done) (tag_behind g 0 None done)
window-at g done = windows g 0 (length done) [] done None refl (omega arith) (omega arith) (record { is_open = refl; same = λ w le lt. (let first : w ≡ 0 = omega (arith, lt) in rw first refl) })

-- entries among which there is no settle
plain-stage : (g k : ℕ) (st : Stage) (ls : List EntryLine) → list_any is_settle ls ≡ false → (fold (stage_after g) st (take k ls)).settles ≡ st.settles
plain-stage g zero st ls e = refl
plain-stage g (suc k) st [] e = refl
plain-stage g (suc k) st (l ∷ ls) e = by_line (is_settle l) refl e (plain-stage g k (stage_after g st l) ls)
  where
    by_line : (q : Bool) → is_settle l ≡ q → (q || list_any is_settle ls) ≡ false → (list_any is_settle ls ≡ false → (fold (stage_after g) (stage_after g st l) (take k ls)).settles ≡ (stage_after g st l).settles)
        → (fold (stage_after g) (stage_after g st l) (take k ls)).settles ≡ st.settles
    by_line true t e f = absurd (cc)
    by_line false t e f = f e ∙ (rw t refl)

take-more : {X : Type 0} (xs ys : List X) (k : ℕ) → take (length xs + k) (xs ++ ys) ≡ xs ++ take k ys
take-more [] ys k = let e : 0 + k ≡ k = omega arith in ap (λ n. take n ys) e
take-more (x ∷ xs) ys k = let e : suc (length xs) + k ≡ suc (length xs + k) = omega arith in ap (λ n. take n (x ∷ (xs ++ ys))) e ∙ ap (λ zs. x ∷ zs) (take-more xs ys k)

fold-append : (g : ℕ) (st : Stage) (xs ys : List EntryLine) → fold (stage_after g) st (xs ++ ys) ≡ fold (stage_after g) (fold (stage_after g) st xs) ys
fold-append g st [] ys = refl
fold-append g st (x ∷ xs) ys = fold-append g (stage_after g st x) xs ys

-- From where a group was at a settle up to the next one there are as many settles without an open tag before each entry.
pub settles-same : (g w : ℕ) (done between later : List EntryLine) → list_any is_settle between ≡ false → reach g done ≤ w → w < length (done ++ (between ++ lines.Settle ∷ []))
    → (stage_at g ((done ++ (between ++ lines.Settle ∷ [])) ++ later) w).settles ≡ (stage g done).settles
settles-same g w done between later plain le lt = by_place (cases w (length done))
  where
    cases : (w n : ℕ) → (w ≤ n) ⊎ (n ≤ w)
    cases w n = grind arith

    rest : List EntryLine
    rest = lines.Settle ∷ later

    all-is : (done ++ (between ++ lines.Settle ∷ [])) ++ later ≡ done ++ (between ++ (lines.Settle ∷ later))
    all-is = append_assoc done (between ++ lines.Settle ∷ []) later ∙ ap (λ zs. done ++ zs) (append_assoc between (lines.Settle ∷ []) later)

    by_place : (w ≤ length done) ⊎ (length done ≤ w) → (stage_at g ((done ++ (between ++ lines.Settle ∷ [])) ++ later) w).settles ≡ (stage g done).settles
    by_place (inl before) =
        let reached : up_to (length done) (tag_behind g 0 None done) ≤ w = (let is = reach-is g 0 (length done) None done (omega arith) in omega (arith, is, le)) in
        ap (λ (z : List EntryLine). (stage g (take w z)).settles) all-is
        ∙ ap (λ (z : List EntryLine). (stage g z).settles) (take-append-le w done (between ++ (lines.Settle ∷ later)) before)
        ∙ (window-at g done).same w reached before
    by_place (inr behind) =
        let k = w - length done in
        let at : w ≡ length done + k = omega (arith, behind) in
        let few : k ≤ length between = (let size = length-append done (between ++ lines.Settle ∷ []) in let more = length-append between (lines.Settle ∷ []) in omega (arith, lt, size, more, behind)) in
        ap (λ (z : List EntryLine). (stage g (take w z)).settles) all-is
        ∙ ap (λ m. (stage g (take m (done ++ (between ++ (lines.Settle ∷ later))))).settles) at
        ∙ ap (λ (z : List EntryLine). (stage g z).settles) (take-more done (between ++ (lines.Settle ∷ later)) k ∙ ap (λ zs. done ++ zs) (take-append-le k between (lines.Settle ∷ later) few))
        ∙ ap (λ (s : Stage). s.settles) (fold-append g first_stage done (take k between))
        ∙ plain-stage g k (stage g done) between plain
