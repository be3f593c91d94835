-- The lines of one group among those of all.
use Rattle.std.proofs.Common.{◌≡◌, ℕ, zero, suc, ◌+◌, ◌<◌, ◌≤◌, refl, sym, ap, ◌∙◌, subst, Bool, true, false, List, [], ◌∷◌, ◌++◌, length, get_or, append-nil, arith, ◌⊎◌, inl, inr}
use Rattle.std.specs.Prelude.{◌≢◌, ◌==◌, cond, filter, slice_get, is_some, Option, Some, None}
use Rattle.std.specs.List.{AllByRecursion, list_all}
use Rattle.std.specs.List.Sorted.{IsPermutation}
use Rattle.std.proofs.lemmas.Bool.Decides.{nat_tests}
use Rattle.std.proofs.lemmas.List.Elements.{All-from_recursion, filter-append, recursion_from_All}
use Rattle.std.proofs.lemmas.List.Sorted.{All-permutation, IsPermutation-sym}
use Rattle.ix_fits.specs.Journals.{AreStrayLines, is_conn_of, is_frame_of, is_stray_of, strays_of}
use Rattle.ix_groupdef.specs.declared.types.GroupRecord.{GroupRecord}
use Rattle.ix_groupdef.specs.declared.types.Stray.{Stray}
use Rattle.ix_lines.specs.declared.types.ConnLine.{ConnLine}
use Rattle.ix_lines.specs.declared.types.EntryLine.{EntryLine}
use Rattle.ix_lines.specs.declared.types.EntryLine.TheVariants as lines
use Rattle.ix_lines.specs.declared.types.StrayLine.{StrayLine}
use Rattle.ix_playdef.specs.Placed.{placed}
use Rattle.ix_playdef.specs.Replies.{stray_key}
use Rattle.ix_playdef.specs.declared.order.Reply.{Reply}
use Rattle.ix_playdef.specs.declared.order.ReplyKey.{ReplyKey}
use Rattle.ix_trace.specs.Sheet.{NeverFall, Rise}
use Rattle.ix_sheet.specs.Lines.{by_place, group_conns, present}
use Rattle.ix_sheet.specs.Strays.{all_strays, group_strays, reply_number, stray_line}
use Rattle.ix_sheet.proofs.ConnLaws.{IsOf, Split, lines-of, never_fall, split}

-- ## What a test keeps
keeps-all : {A : Type 0} (p : A → Bool) (xs : List A) → AllByRecursion (λ x. p x ≡ true) xs → filter p xs ≡ xs
keeps-all p [] h = refl
keeps-all p (x ∷ xs) h = ap (λ b. cond b (x ∷ filter p xs) (filter p xs)) h.0 ∙ ap (λ zs. x ∷ zs) (keeps-all p xs h.1)

keeps-none : {A : Type 0} (p : A → Bool) (xs : List A) → AllByRecursion (λ x. p x ≡ false) xs → filter p xs ≡ []
keeps-none p [] h = refl
keeps-none p (x ∷ xs) h = ap (λ b. cond b (x ∷ filter p xs) (filter p xs)) h.0 ∙ keeps-none p xs h.1

-- ## Connections
own-conns : (g : ℕ) (ls : List ConnLine) → AllByRecursion (IsOf g) ls → AllByRecursion (λ (l : ConnLine). is_conn_of g l ≡ true) ls
own-conns g [] p = tt
own-conns g (l ∷ ls) p = (let e : (l.group.0 == g) ≡ true = grind (arith, nat_tests, p.0) in e, own-conns g ls p.1)

other-conns : (g h : ℕ) (ls : List ConnLine) → g < h → AllByRecursion (IsOf g) ls → AllByRecursion (λ (l : ConnLine). is_conn_of h l ≡ false) ls
other-conns g h [] lt p = tt
other-conns g h (l ∷ ls) lt p = (let e : (l.group.0 == h) ≡ false = grind (arith, nat_tests, p.0, lt) in e, other-conns g h ls lt p.1)

later-conns : (g n : ℕ) (ls : List ConnLine) → g < n → NeverFall n ls → AllByRecursion (λ (l : ConnLine). is_conn_of g l ≡ false) ls
later-conns g n [] lt p = tt
later-conns g n (l ∷ ls) lt p = (let e : (l.group.0 == g) ≡ false = grind (arith, nat_tests, p.0, lt) in e, later-conns g l.group.0 ls (omega (arith, lt, p.0)) p.1)

module _ (entries : List EntryLine) (replies : List Reply) where
  pub conns-of_group : (at : ℕ) (rs : List GroupRecord) (ls : List ConnLine) (i : ℕ) (d : GroupRecord) → present ls ≡ placed (group_conns entries replies) at rs → i < length rs
      → present (filter (is_conn_of (at + i)) ls) ≡ group_conns entries replies (at + i) (get_or rs i d)
  conns-of_group at [] ls i d e lt = absurd (omega arith)
  conns-of_group at (r ∷ rs) ls zero d e lt =
      let s : Split ls (group_conns entries replies at r) (placed (group_conns entries replies) (at + 1) rs) = split ls _ _ e in
      let own : filter (is_conn_of at) s.front ≡ s.front = keeps-all (is_conn_of at) s.front (own-conns at s.front (lines-of entries replies at 0 r.conns s.front s.first)) in
      let none : filter (is_conn_of at) s.back ≡ [] =
      keeps-none (is_conn_of at) s.back (later-conns at (at + 1) s.back (omega arith) (never_fall entries replies (at + 1) rs s.back s.second)) in
      let here : present (filter (is_conn_of at) ls) ≡ group_conns entries replies at r =
      ap (λ (zs : List ConnLine). present (filter (is_conn_of at) zs)) s.whole
      ∙ ap (λ (zs : List ConnLine). present zs) (filter-append (is_conn_of at) s.front s.back ∙ ap (λ zs. zs ++ filter (is_conn_of at) s.back) own ∙ ap (λ zs. s.front ++ zs) none ∙ append-nil s.front)
      ∙ s.first in
      subst (λ (n : ℕ). present (filter (is_conn_of n) ls) ≡ group_conns entries replies n r) (let z : at ≡ at + 0 = omega arith in z) here
  conns-of_group at (r ∷ rs) ls (suc i) d e lt =
      let s : Split ls (group_conns entries replies at r) (placed (group_conns entries replies) (at + 1) rs) = split ls _ _ e in
      let n : ℕ = (at + 1) + i in
      let none : filter (is_conn_of n) s.front ≡ [] =
      keeps-none (is_conn_of n) s.front (other-conns at n s.front (omega arith) (lines-of entries replies at 0 r.conns s.front s.first)) in
      let rest : present (filter (is_conn_of n) s.back) ≡ group_conns entries replies n (get_or rs i d) = conns-of_group (at + 1) rs s.back i d s.second (omega (arith, lt)) in
      let here : present (filter (is_conn_of n) ls) ≡ group_conns entries replies n (get_or rs i d) =
      ap (λ (zs : List ConnLine). present (filter (is_conn_of n) zs)) s.whole
      ∙ ap (λ (zs : List ConnLine). present zs) (filter-append (is_conn_of n) s.front s.back ∙ ap (λ zs. zs ++ filter (is_conn_of n) s.back) none) ∙ rest in
      subst (λ (m : ℕ). present (filter (is_conn_of m) ls) ≡ group_conns entries replies m (get_or rs i d)) (let z : (at + 1) + i ≡ at + suc i = omega arith in z) here

-- ## Lists of rising strays with the same elements are one
abbrev pub Among : StrayLine → List StrayLine → Type 0
Among l [] = ⊥
Among l (x ∷ xs) = (l ≡ x) ⊎ Among l xs

rise-later : (m n : ℕ) (ls : List StrayLine) → m ≤ n → Rise n ls → Rise m ls
rise-later m n [] le p = tt
rise-later m n (l ∷ ls) le p = (omega (arith, le, p.0), p.1)

pub rise-filter : (p : StrayLine → Bool) (n : ℕ) (ls : List StrayLine) → Rise n ls → Rise n (filter p ls)
rise-filter p n [] r = tt
rise-filter p n (l ∷ ls) r = by_test (p l) (rise-filter p (l.w.0 + 1) ls r.1)
  where
    by_test : (b : Bool) → Rise (l.w.0 + 1) (filter p ls) → Rise n (cond b (l ∷ filter p ls) (filter p ls))
    by_test true rest = (r.0, rest)
    by_test false rest = rise-later n (l.w.0 + 1) (filter p ls) (omega (arith, r.0)) rest

among-above : (n : ℕ) (l : StrayLine) (ls : List StrayLine) → Rise n ls → Among l ls → n ≤ l.w.0
among-above n l [] r a = absurd a
among-above n l (x ∷ ls) r (inl same) = subst (λ (z : StrayLine). n ≤ z.w.0) (sym same) r.0
among-above n l (x ∷ ls) r (inr there) = omega (arith, r.0, among-above (x.w.0 + 1) l ls r.1 there)

abbrev AllAmong : List StrayLine → List StrayLine → Type 0
AllAmong xs ys = AllByRecursion (λ (l : StrayLine). Among l ys) xs

-- the first of two such lists are one
first-same : (x y : StrayLine) (xs ys : List StrayLine) → Rise (x.w.0 + 1) xs → Rise (y.w.0 + 1) ys → Among x (y ∷ ys) → Among y (x ∷ xs) → x ≡ y
first-same x y xs ys r s (inl same) b = same
first-same x y xs ys r s (inr later) (inl same) = sym same
first-same x y xs ys r s (inr later) (inr last) = absurd (omega (arith, among-above (y.w.0 + 1) x ys s later, among-above (x.w.0 + 1) y xs r last))

among-rest : (x y : StrayLine) (ys : List StrayLine) → y.w.0 + 1 ≤ x.w.0 → Among x (y ∷ ys) → Among x ys
among-rest x y ys lt (inl same) = absurd (omega (arith, lt, ap (λ (z : StrayLine). z.w.0) same))
among-rest x y ys lt (inr there) = there

all-rest : (y : StrayLine) (n : ℕ) (xs ys : List StrayLine) → y.w.0 + 1 ≤ n → Rise n xs → AllAmong xs (y ∷ ys) → AllAmong xs ys
all-rest y n [] ys le r a = tt
all-rest y n (x ∷ xs) ys le r a = (among-rest x y ys (omega (arith, le, r.0)) a.0, all-rest y (x.w.0 + 1) xs ys (omega (arith, le, r.0)) r.1 a.1)

pub same_elements : (n m : ℕ) (xs ys : List StrayLine) → Rise n xs → Rise m ys → AllAmong xs ys → AllAmong ys xs → xs ≡ ys
same_elements n m [] [] r s a b = refl
same_elements n m [] (y ∷ ys) r s a b = absurd b.0
same_elements n m (x ∷ xs) [] r s a b = absurd a.0
same_elements n m (x ∷ xs) (y ∷ ys) r s a b =
    let one : x ≡ y = first-same x y xs ys r.1 s.1 a.0 b.0 in
    let numbers : x.w.0 ≡ y.w.0 = ap (λ (z : StrayLine). z.w.0) one in
    let rest : xs ≡ ys =
    same_elements (x.w.0 + 1) (y.w.0 + 1) xs ys r.1 s.1
    (all-rest y (x.w.0 + 1) xs ys (omega (arith, numbers)) r.1 a.1)
    (all-rest x (y.w.0 + 1) ys xs (omega (arith, numbers)) s.1 b.1) in
    ap (λ z. z ∷ xs) one ∙ ap (λ zs. y ∷ zs) rest

-- ## Elements and permutations
all-more : (l : StrayLine) (xs ys : List StrayLine) → AllAmong xs ys → AllAmong xs (l ∷ ys)
all-more l [] ys a = tt
all-more l (x ∷ xs) ys a = (inr a.0, all-more l xs ys a.1)

all-self : (xs : List StrayLine) → AllAmong xs xs
all-self [] = tt
all-self (x ∷ xs) = (inl refl, all-more x xs xs (all-self xs))

moved : (P : StrayLine → Type 0) (xs ys : List StrayLine) → IsPermutation xs ys → AllByRecursion P xs → AllByRecursion P ys
moved P xs ys perm all = recursion_from_All P ys (All-permutation P xs ys perm (All-from_recursion P xs all))

both-parts : (P : StrayLine → Type 0) (xs ys : List StrayLine) → AllByRecursion P xs → AllByRecursion P ys → AllByRecursion P (xs ++ ys)
both-parts P [] ys p q = q
both-parts P (x ∷ xs) ys p q = (p.0, both-parts P xs ys p.1 q)

parts-of : (P : StrayLine → Type 0) (xs ys : List StrayLine) → AllByRecursion P (xs ++ ys) → AllByRecursion P xs × AllByRecursion P ys
parts-of P [] ys p = (tt, p)
parts-of P (x ∷ xs) ys p = let q = parts-of P xs ys p.1 in ((p.0, q.0), q.1)

among-filter : (p : StrayLine → Bool) (l : StrayLine) (ls : List StrayLine) → p l ≡ true → Among l ls → Among l (filter p ls)
among-filter p l [] e a = absurd a
among-filter p l (x ∷ ls) e (inl same) =
    subst (λ (b : Bool). Among l (cond b (x ∷ filter p ls) (filter p ls))) (sym (ap p (sym same) ∙ e)) (inl same)
among-filter p l (x ∷ ls) e (inr there) = by_test (p x) (among-filter p l ls e there)
  where
    by_test : (b : Bool) → Among l (filter p ls) → Among l (cond b (x ∷ filter p ls) (filter p ls))
    by_test true a = inr a
    by_test false a = a

all-filtered : (p : StrayLine → Bool) (P : StrayLine → Type 0) (ls : List StrayLine) → AllByRecursion (λ (l : StrayLine). p l ≡ true → P l) ls → AllByRecursion P (filter p ls)
all-filtered p P [] h = tt
all-filtered p P (l ∷ ls) h = by_test (p l) refl (all-filtered p P ls h.1)
  where
    by_test : (b : Bool) → p l ≡ b → AllByRecursion P (filter p ls) → AllByRecursion P (cond b (l ∷ filter p ls) (filter p ls))
    by_test true e rest = (h.0 e, rest)
    by_test false e rest = rest

-- ## The strays of a group
-- those of the group in this place are accepted frames of it
pub record AreOwn (entries : List EntryLine) (at : ℕ) (rs : List GroupRecord) : Type 0 where
  pub own : (i : ℕ) (d : GroupRecord) → i < length rs → AllByRecursion (λ (s : Stray). is_frame_of (at + i) (slice_get entries s.w.0) ≡ true) (get_or rs i d).strays

own-first : (entries : List EntryLine) (at : ℕ) (r : GroupRecord) (rs : List GroupRecord) → AreOwn entries at (r ∷ rs) → AllByRecursion (λ (s : Stray). is_frame_of at (slice_get entries s.w.0) ≡ true) r.strays
own-first entries at r rs o =
    subst (λ (n : ℕ). AllByRecursion (λ (s : Stray). is_frame_of n (slice_get entries s.w.0) ≡ true) r.strays) (let z : at + 0 ≡ at = omega arith in z) (o.own 0 r (omega arith))

own-later : (entries : List EntryLine) (at : ℕ) (r : GroupRecord) (rs : List GroupRecord) → AreOwn entries at (r ∷ rs) → AreOwn entries (at + 1) rs
own-later entries at r rs o =
    record {
      own = λ i d lt.
          subst (λ (n : ℕ). AllByRecursion (λ (s : Stray). is_frame_of n (slice_get entries s.w.0) ≡ true) (get_or rs i d).strays)
          (let z : at + suc i ≡ (at + 1) + i = omega arith in z) (o.own (suc i) d (omega (arith, lt)));
    }

-- an entry is a frame of one group alone
pub one-group : (o : Option EntryLine) (g h : ℕ) → is_frame_of g o ≡ true → is_frame_of h o ≡ true → g ≡ h
one-group None g h e f = absurd (cc)
one-group (Some (lines.Frame rec at group ring fate)) g h e f = grind (arith, nat_tests, e, f)
one-group (Some (lines.Time t)) g h e f = absurd (cc)
one-group (Some (lines.Tag group)) g h e f = absurd (cc)
one-group (Some (lines.Move group to)) g h e f = absurd (cc)
one-group (Some lines.Settle) g h e f = absurd (cc)

module _ (entries : List EntryLine) (replies : List Reply) where
  lines-own : (g at : ℕ) (ss : List Stray) → AllByRecursion (λ (s : Stray). is_frame_of g (slice_get entries s.w.0) ≡ true) ss
      → AllByRecursion (λ (l : StrayLine). is_stray_of g entries l ≡ true) (by_place (stray_line replies g) at ss)
  lines-own g at [] p = tt
  lines-own g at (s ∷ ss) p = (p.0, lines-own g (at + 1) ss p.1)

  -- what holds of the lines of the group in this place holds of all lines, where of those of the other groups it says nothing
  all-but : (P : StrayLine → Type 0) (g h : ℕ) (ls : List StrayLine) → g ≢ h → AllByRecursion (λ (l : StrayLine). is_stray_of h entries l ≡ true) ls
      → AllByRecursion (λ (l : StrayLine). is_stray_of g entries l ≡ true → P l) ls
  all-but P g h [] other own = tt
  all-but P g h (l ∷ ls) other own = (λ e. absurd (other (one-group (slice_get entries l.w.0) g h e own.0)), all-but P g h ls other own.1)

  all-none : (P : StrayLine → Type 0) (g at : ℕ) (rs : List GroupRecord) → g < at → AreOwn entries at rs
      → AllByRecursion (λ (l : StrayLine). is_stray_of g entries l ≡ true → P l) (placed (group_strays replies) at rs)
  all-none P g at [] lt own = tt
  all-none P g at (r ∷ rs) lt own =
      both-parts (λ (l : StrayLine). is_stray_of g entries l ≡ true → P l) (group_strays replies at r) (placed (group_strays replies) (at + 1) rs)
      (all-but P g at (group_strays replies at r) (omega (arith, lt)) (lines-own at 0 r.strays (own-first entries at r rs own)))
      (all-none P g (at + 1) rs (omega (arith, lt)) (own-later entries at r rs own))

  weaken : (P : StrayLine → Type 0) (g : ℕ) (ls : List StrayLine) → AllByRecursion P ls → AllByRecursion (λ (l : StrayLine). is_stray_of g entries l ≡ true → P l) ls
  weaken P g [] p = tt
  weaken P g (l ∷ ls) p = (λ e. p.0, weaken P g ls p.1)

  all-one : (P : StrayLine → Type 0) (at : ℕ) (rs : List GroupRecord) (i : ℕ) (d : GroupRecord) → i < length rs → AreOwn entries at rs
      → AllByRecursion P (group_strays replies (at + i) (get_or rs i d))
      → AllByRecursion (λ (l : StrayLine). is_stray_of (at + i) entries l ≡ true → P l) (placed (group_strays replies) at rs)
  all-one P at [] i d lt own p = absurd (omega arith)
  all-one P at (r ∷ rs) zero d lt own p =
      let z : at + 0 ≡ at = omega arith in
      subst (λ (n : ℕ). AllByRecursion (λ (l : StrayLine). is_stray_of n entries l ≡ true → P l) (group_strays replies at r ++ placed (group_strays replies) (at + 1) rs)) (sym z)
      (both-parts (λ (l : StrayLine). is_stray_of at entries l ≡ true → P l) (group_strays replies at r) (placed (group_strays replies) (at + 1) rs)
      (weaken P at (group_strays replies at r) (subst (λ (n : ℕ). AllByRecursion P (group_strays replies n r)) z p))
      (all-none P at (at + 1) rs (omega arith) (own-later entries at r rs own)))
  all-one P at (r ∷ rs) (suc i) d lt own p =
      let z : at + suc i ≡ (at + 1) + i = omega arith in
      subst (λ (n : ℕ). AllByRecursion (λ (l : StrayLine). is_stray_of n entries l ≡ true → P l) (group_strays replies at r ++ placed (group_strays replies) (at + 1) rs)) (sym z)
      (both-parts (λ (l : StrayLine). is_stray_of ((at + 1) + i) entries l ≡ true → P l) (group_strays replies at r) (placed (group_strays replies) (at + 1) rs)
      (all-but P ((at + 1) + i) at (group_strays replies at r) (omega arith) (lines-own at 0 r.strays (own-first entries at r rs own)))
      (all-one P (at + 1) rs i d (omega (arith, lt)) (own-later entries at r rs own) (subst (λ (n : ℕ). AllByRecursion P (group_strays replies n (get_or rs i d))) z p)))

  -- what holds of all lines holds of those of each group
  of-one : (P : StrayLine → Type 0) (at : ℕ) (rs : List GroupRecord) (i : ℕ) (d : GroupRecord) → i < length rs → AllByRecursion P (placed (group_strays replies) at rs)
      → AllByRecursion P (group_strays replies (at + i) (get_or rs i d))
  of-one P at [] i d lt p = absurd (omega arith)
  of-one P at (r ∷ rs) zero d lt p =
      subst (λ (n : ℕ). AllByRecursion P (group_strays replies n r)) (let z : at ≡ at + 0 = omega arith in z) (parts-of P (group_strays replies at r) (placed (group_strays replies) (at + 1) rs) p).0
  of-one P at (r ∷ rs) (suc i) d lt p =
      subst (λ (n : ℕ). AllByRecursion P (group_strays replies n (get_or rs i d))) (let z : (at + 1) + i ≡ at + suc i = omega arith in z)
      (of-one P (at + 1) rs i d (omega (arith, lt)) (parts-of P (group_strays replies at r) (placed (group_strays replies) (at + 1) rs) p).1)

  filter-among : (g : ℕ) (ls ks : List StrayLine) → AllByRecursion (λ (l : StrayLine). is_stray_of g entries l ≡ true) ls → AllByRecursion (λ (l : StrayLine). Among l ks) ls
      → AllByRecursion (λ (l : StrayLine). Among l (strays_of g entries ks)) ls
  filter-among g [] ks own p = tt
  filter-among g (l ∷ ls) ks own p = (among-filter (is_stray_of g entries) l ks own.0 p.0, filter-among g ls ks own.1 p.1)

  -- The lines of a group's frames are those of its strays, in their order.
  pub strays-of_group : (rs : List GroupRecord) (ls : List StrayLine) (g : ℕ) (d : GroupRecord) → g < length rs → AreOwn entries 0 rs → IsPermutation (all_strays replies rs) ls → Rise 0 ls
      → Rise 0 (group_strays replies g (get_or rs g d)) → strays_of g entries ls ≡ group_strays replies g (get_or rs g d)
  strays-of_group rs ls g d lt own perm rise rises =
      let mine : List StrayLine = group_strays replies g (get_or rs g d) in
      let z : 0 + g ≡ g = omega arith in
      let own_lines : AllByRecursion (λ (l : StrayLine). is_stray_of g entries l ≡ true) mine =
      lines-own g 0 (get_or rs g d).strays (subst (λ (n : ℕ). AllByRecursion (λ (s : Stray). is_frame_of n (slice_get entries s.w.0) ≡ true) (get_or rs g d).strays) z (own.own g d lt)) in
      let all : AllByRecursion (λ (l : StrayLine). is_stray_of g entries l ≡ true → Among l mine) (all_strays replies rs) =
      subst (λ (n : ℕ). AllByRecursion (λ (l : StrayLine). is_stray_of n entries l ≡ true → Among l mine) (all_strays replies rs)) z
      (all-one (λ (l : StrayLine). Among l mine) 0 rs g d lt own (subst (λ (n : ℕ). AllAmong (group_strays replies n (get_or rs g d)) mine) (sym z) (all-self mine))) in
      let back : AllByRecursion (λ (l : StrayLine). Among l ls) mine =
      subst (λ (n : ℕ). AllByRecursion (λ (l : StrayLine). Among l ls) (group_strays replies n (get_or rs g d))) z
      (of-one (λ (l : StrayLine). Among l ls) 0 rs g d lt (moved (λ (l : StrayLine). Among l ls) ls (all_strays replies rs) (IsPermutation-sym (all_strays replies rs) ls perm) (all-self ls))) in
      same_elements 0 0 (strays_of g entries ls) mine (rise-filter (is_stray_of g entries) 0 ls rise) rises
      (all-filtered (is_stray_of g entries) (λ (l : StrayLine). Among l mine) ls (moved (λ (l : StrayLine). is_stray_of g entries l ≡ true → Among l mine) (all_strays replies rs) ls perm all))
      (filter-among g mine ls own_lines back)

-- ## They print the group's strays
pub strays-printed : (replies : List Reply) (g at : ℕ) (ss : List Stray) → AreStrayLines ss (by_place (stray_line replies g) at ss)
strays-printed replies g at [] = tt
strays-printed replies g at (s ∷ ss) =
    (record { w = refl; core = refl; kind = refl; answered = answered (stray_key g at s.w) s.reply }, strays-printed replies g (at + 1) ss)
  where
    answered : (key : ReplyKey) (o : Option (List ℕ)) → is_some (reply_number replies key o) ≡ is_some o
    answered key None = refl
    answered key (Some frame) = refl

-- ## Each is an accepted frame
pub all-strays : (P : StrayLine → Type 0) (replies : List Reply) (at : ℕ) (rs : List GroupRecord)
    → ((i : ℕ) (d : GroupRecord) → i < length rs → AllByRecursion P (group_strays replies (at + i) (get_or rs i d))) → AllByRecursion P (placed (group_strays replies) at rs)
all-strays P replies at [] each = tt
all-strays P replies at (r ∷ rs) each =
    both-parts P (group_strays replies at r) (placed (group_strays replies) (at + 1) rs)
    (subst (λ (n : ℕ). AllByRecursion P (group_strays replies n r)) (let z : at + 0 ≡ at = omega arith in z) (each 0 r (omega arith)))
    (all-strays P replies (at + 1) rs
    (λ i d lt. subst (λ (n : ℕ). AllByRecursion P (group_strays replies n (get_or rs i d))) (let z : at + suc i ≡ (at + 1) + i = omega arith in z) (each (suc i) d (omega (arith, lt)))))

pub all-moved : (P : StrayLine → Type 0) (xs ys : List StrayLine) → IsPermutation xs ys → AllByRecursion P xs → AllByRecursion P ys
all-moved P xs ys perm all = moved P xs ys perm all

pub all-tested : (p : StrayLine → Bool) (ls : List StrayLine) → AllByRecursion (λ (l : StrayLine). p l ≡ true) ls → list_all p ls ≡ true
all-tested p [] h = refl
all-tested p (l ∷ ls) h = rw (h.0) (all-tested p ls h.1)
