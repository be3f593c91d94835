-- The connections of a report stand group by group.
use Rattle.std.proofs.Common.{◌≡◌, ℕ, ◌+◌, ◌<◌, ◌≤◌, refl, sym, ap, subst, ◌∙◌, List, [], ◌∷◌, ◌++◌, length, arith}
use Rattle.std.specs.Prelude.{Option, Some, None, option_map}
use Rattle.std.specs.List.{AllByRecursion}
use Rattle.ix_groupdef.specs.declared.types.ConnEnd.{ConnEnd}
use Rattle.ix_groupdef.specs.declared.types.GroupRecord.{GroupRecord}
use Rattle.ix_lines.specs.declared.types.ConnLine.{ConnLine}
use Rattle.ix_lines.specs.declared.types.EntryLine.{EntryLine}
use Rattle.ix_lines.specs.declared.types.InputLine.{InputLine}
use Rattle.ix_playdef.specs.Placed.{placed}
use Rattle.ix_playdef.specs.declared.order.Reply.{Reply}
use Rattle.ix_trace.specs.Sheet.{NeverFall}
use Rattle.ix_sheet.specs.Lines.{all_present, by_place, conn_line, group_conns, input_lines, line_of_conn, present}

-- ## Lines that are all there, in two parts
pub record Split {A : Type 0} (ls : List A) (xs ys : List (Option A)) : Type 0 where
  pub front : List A
  pub back : List A
  pub whole : ls ≡ front ++ back
  pub first : present front ≡ xs
  pub second : present back ≡ ys

pub record Head {A : Type 0} (l : A) (ls : List A) (x : Option A) (xs : List (Option A)) : Type 0 where
  pub one : x ≡ Some l
  pub rest : present ls ≡ xs

pub head-of : {A : Type 0} (l : A) (ls : List A) (x : Option A) (xs : List (Option A)) → Some l ∷ present ls ≡ x ∷ xs → Head l ls x xs
head-of l ls x xs e = record { one = cc; rest = cc }

pub split : {A : Type 0} (ls : List A) (xs ys : List (Option A)) → present ls ≡ xs ++ ys → Split ls xs ys
split ls [] ys e = record { front = []; back = ls; whole = refl; first = refl; second = e }
split [] (x ∷ xs) ys e = absurd (cc)
split (l ∷ ls) (x ∷ xs) ys e =
    let h : Head l ls x (xs ++ ys) = head-of l ls x (xs ++ ys) e in
    let s : Split ls xs ys = split ls xs ys h.rest in
    record { front = l ∷ s.front; back = s.back; whole = ap (λ zs. l ∷ zs) s.whole; first = ap (λ zs. Some l ∷ zs) s.first ∙ ap (λ o. o ∷ xs) (sym h.one); second = s.second }

-- ## The line of a connection
pub record IsMade (entries : List EntryLine) (replies : List Reply) (group order : ℕ) (c : ConnEnd) (l : ConnLine) : Type 0 where
  pub inputs : List InputLine
  pub there : all_present (input_lines entries replies group order c) ≡ Some inputs
  pub is : l ≡ line_of_conn group c inputs

pub made : (entries : List EntryLine) (replies : List Reply) (group order : ℕ) (c : ConnEnd) (l : ConnLine) → conn_line entries replies group order c ≡ Some l → IsMade entries replies group order c l
made entries replies group order c l e = by_case (all_present (input_lines entries replies group order c)) refl e
  where
    by_case : (o : Option (List InputLine)) → all_present (input_lines entries replies group order c) ≡ o → option_map (line_of_conn group c) o ≡ Some l → IsMade entries replies group order c l
    by_case None is f = absurd (cc)
    by_case (Some inputs) is f = record { inputs = inputs; there = is; is = same (line_of_conn group c inputs) l f }
      where
        same : (a b : ConnLine) → (let o : Option ConnLine = Some a in o) ≡ Some b → b ≡ a
        same a b g = cc

-- ## Groups
abbrev pub IsOf : ℕ → ConnLine → Type 0
IsOf group l = l.group.0 ≡ group

pub lines-of : (entries : List EntryLine) (replies : List Reply) (group at : ℕ) (cs : List ConnEnd) (ls : List ConnLine) → present ls ≡ by_place (conn_line entries replies group) at cs
    → AllByRecursion (IsOf group) ls
lines-of entries replies group at cs [] e = tt
lines-of entries replies group at [] (l ∷ ls) e = absurd (cc)
lines-of entries replies group at (c ∷ cs) (l ∷ ls) e =
    let h : Head l ls (conn_line entries replies group at c) (by_place (conn_line entries replies group) (at + 1) cs) = head-of l ls _ _ e in
    let m : IsMade entries replies group at c l = made entries replies group at c l h.one in
    (ap (λ (k : ConnLine). k.group.0) m.is, lines-of entries replies group (at + 1) cs ls h.rest)

fall-later : (g low : ℕ) (ls : List ConnLine) → g ≤ low → NeverFall low ls → NeverFall g ls
fall-later g low [] le p = tt
fall-later g low (l ∷ ls) le p = (omega (arith, le, p.0), p.1)

fall-both : (low g : ℕ) (front back : List ConnLine) → low ≤ g → AllByRecursion (IsOf g) front → NeverFall (g + 1) back → NeverFall low (front ++ back)
fall-both low g [] back le p q = fall-later low (g + 1) back (omega (arith, le)) q
fall-both low g (l ∷ front) back le p q =
    (omega (arith, le, p.0), fall-both l.group.0 g front back (omega (arith, p.0)) p.1 q)

pub never_fall : (entries : List EntryLine) (replies : List Reply) (at : ℕ) (rs : List GroupRecord) (ls : List ConnLine) → present ls ≡ placed (group_conns entries replies) at rs → NeverFall at ls
never_fall entries replies at [] [] e = tt
never_fall entries replies at [] (l ∷ ls) e = absurd (cc)
never_fall entries replies at (r ∷ rs) ls e =
    let s : Split ls (group_conns entries replies at r) (placed (group_conns entries replies) (at + 1) rs) = split ls _ _ e in
    subst (NeverFall at) (sym s.whole)
    (fall-both at at s.front s.back (omega arith) (lines-of entries replies at 0 r.conns s.front s.first) (never_fall entries replies (at + 1) rs s.back s.second))

abbrev pub IsBelow : ℕ → ConnLine → Type 0
IsBelow n l = l.group.0 < n

below-both : (n g : ℕ) (front back : List ConnLine) → g < n → AllByRecursion (IsOf g) front → AllByRecursion (IsBelow n) back → AllByRecursion (IsBelow n) (front ++ back)
below-both n g [] back lt p q = q
below-both n g (l ∷ front) back lt p q = (omega (arith, lt, p.0), below-both n g front back lt p.1 q)

pub all_below : (entries : List EntryLine) (replies : List Reply) (n at : ℕ) (rs : List GroupRecord) (ls : List ConnLine) → at + length rs ≤ n → present ls ≡ placed (group_conns entries replies) at rs
    → AllByRecursion (IsBelow n) ls
all_below entries replies n at [] [] le e = tt
all_below entries replies n at [] (l ∷ ls) le e = absurd (cc)
all_below entries replies n at (r ∷ rs) ls le e =
    let s : Split ls (group_conns entries replies at r) (placed (group_conns entries replies) (at + 1) rs) = split ls _ _ e in
    subst (AllByRecursion (IsBelow n)) (sym s.whole)
    (below-both n at s.front s.back (omega (arith, le)) (lines-of entries replies at 0 r.conns s.front s.first)
    (all_below entries replies n (at + 1) rs s.back (omega (arith, le)) s.second))
