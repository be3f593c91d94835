-- The lines of a group.
use Rattle.std.proofs.Common.{◌≡◌, ℕ, zero, suc, ◌+◌, ◌-◌, ◌<◌, ◌≤◌, ◌⊎◌, inl, inr, refl, sym, ap, ◌∙◌, subst, Bool, true, false, List, [], ◌∷◌, length, take, drop, get_or, arith}
use Rattle.std.specs.Prelude.{if◌then◌else◌, cond, nat_lt, count_by, slice_range, is_some}
use Rattle.std.specs.Bool.{Decides}
use Rattle.std.specs.List.{AllByRecursion, list_all}
use Rattle.std.proofs.lemmas.Bool.{and_from, and_parts, both_ways, cases_order, eqb-true, eq-eqb, le-ltb, lt-ltb, ltb-true, ne_eqb}
use Rattle.std.proofs.lemmas.List.Sums.{length-filter, sum_by-cons}
use Rattle.ix_base.specs.declared.id.CoreId.{CoreId}
use Rattle.ix_base.specs.declared.id.WireNo.{WireNo}
use Rattle.ix_base.specs.declared.id.TheConstants.{FLOW_GROUPS}
use Rattle.ix_groupdef.specs.declared.types.ConnEnd.{ConnEnd}
use Rattle.ix_groupdef.specs.declared.types.Stray.{Stray}
use Rattle.ix_lines.specs.declared.types.ConnLine.{ConnLine}
use Rattle.ix_lines.specs.declared.types.StrayLine.{StrayLine}
use Rattle.ix_trace.specs.Sheet.{NeverFall}
use Rattle.ix_fits.specs.Journals.{AreConnLines, AreStrayLines, IsConnLine, IsStrayLine, conns_of, is_conn_of}
use Rattle.ix_decide.specs.Points.{is_before}

-- ## Where the connections of a group stand
counted : (p : ConnLine → Bool) (c : ConnLine) (cs : List ConnLine) → count_by p (c ∷ cs) ≡ (if p c then 1 else 0) + count_by p cs
counted p c cs = sum_by-cons (λ (x : ConnLine). if p x then 1 else 0) c cs

counted-yes : (p : ConnLine → Bool) (c : ConnLine) (cs : List ConnLine) → p c ≡ true → count_by p (c ∷ cs) ≡ suc (count_by p cs)
counted-yes p c cs e = let one : count_by p (c ∷ cs) ≡ 1 + count_by p cs = counted p c cs ∙ ap (λ (b : Bool). (if b then 1 else 0) + count_by p cs) e in omega (arith, one)

counted-no : (p : ConnLine → Bool) (c : ConnLine) (cs : List ConnLine) → p c ≡ false → count_by p (c ∷ cs) ≡ count_by p cs
counted-no p c cs e = let none : count_by p (c ∷ cs) ≡ 0 + count_by p cs = counted p c cs ∙ ap (λ (b : Bool). (if b then 1 else 0) + count_by p cs) e in omega (arith, none)

-- none is before a group that none is below
none-before : (g b : ℕ) (cs : List ConnLine) → g ≤ b → NeverFall b cs → count_by (is_before g) cs ≡ 0
none-before g b [] le fall = refl
none-before g b (c ∷ cs) le fall =
    counted-no (is_before g) c cs (le-ltb c.group.0 g (omega (arith, le, fall.0)))
    ∙ none-before g c.group.0 cs (omega (arith, le, fall.0)) fall.1

-- and none is of a lesser one
none-of : (g b : ℕ) (cs : List ConnLine) → g < b → NeverFall b cs → conns_of g cs ≡ []
none-of g b [] lt fall = refl
none-of g b (c ∷ cs) lt fall =
    ap (λ (t : Bool). cond t (c ∷ conns_of g cs) (conns_of g cs)) (ne_eqb c.group.0 g (λ e. omega (arith, lt, fall.0, e)))
    ∙ none-of g c.group.0 cs (omega (arith, lt, fall.0)) fall.1

stand : (g b : ℕ) (cs : List ConnLine) → NeverFall b cs → take (length (conns_of g cs)) (drop (count_by (is_before g) cs) cs) ≡ conns_of g cs
stand g b [] fall = refl
stand g b (c ∷ cs) fall = by_order (stand g c.group.0 cs fall.1) (cases_order c.group.0 g)
  where
    by_order : take (length (conns_of g cs)) (drop (count_by (is_before g) cs) cs) ≡ conns_of g cs → (c.group.0 ≡ g) ⊎ ((c.group.0 < g) ⊎ (g < c.group.0))
        → take (length (conns_of g (c ∷ cs))) (drop (count_by (is_before g) (c ∷ cs)) (c ∷ cs)) ≡ conns_of g (c ∷ cs)
    by_order rest (inl same) =
        let own : conns_of g (c ∷ cs) ≡ c ∷ conns_of g cs = ap (λ (t : Bool). cond t (c ∷ conns_of g cs) (conns_of g cs)) (eq-eqb c.group.0 g same) in
        let none : count_by (is_before g) (c ∷ cs) ≡ 0 =
        none-before g c.group.0 (c ∷ cs) (omega (arith, same)) (omega arith, fall.1) in
        let later : count_by (is_before g) cs ≡ 0 = none-before g c.group.0 cs (omega (arith, same)) fall.1 in
        ap (λ n. take (length (conns_of g (c ∷ cs))) (drop n (c ∷ cs))) none
        ∙ ap (λ (xs : List ConnLine). take (length xs) (c ∷ cs)) own
        ∙ ap (λ (xs : List ConnLine). c ∷ xs) (sym (ap (λ n. take (length (conns_of g cs)) (drop n cs)) later) ∙ rest)
        ∙ sym own
    by_order rest (inr (inl before)) =
        let other : conns_of g (c ∷ cs) ≡ conns_of g cs = ap (λ (t : Bool). cond t (c ∷ conns_of g cs) (conns_of g cs)) (ne_eqb c.group.0 g (λ e. omega (arith, before, e))) in
        let one : count_by (is_before g) (c ∷ cs) ≡ suc (count_by (is_before g) cs) = counted-yes (is_before g) c cs (lt-ltb c.group.0 g before) in
        ap (λ n. take (length (conns_of g (c ∷ cs))) (drop n (c ∷ cs))) one
        ∙ ap (λ (xs : List ConnLine). take (length xs) (drop (count_by (is_before g) cs) cs)) other
        ∙ rest
        ∙ sym other
    by_order rest (inr (inr after)) =
        let none : conns_of g (c ∷ cs) ≡ [] =
        ap (λ (t : Bool). cond t (c ∷ conns_of g cs) (conns_of g cs)) (ne_eqb c.group.0 g (λ e. omega (arith, after, e))) ∙ none-of g c.group.0 cs after fall.1 in
        ap (λ (xs : List ConnLine). take (length xs) (drop (count_by (is_before g) (c ∷ cs)) (c ∷ cs))) none ∙ sym none

pub lines-are : (g from to : ℕ) (cs : List ConnLine) → NeverFall 0 cs → from ≡ count_by (is_before g) cs → to ≡ count_by (is_before g) cs + count_by (is_conn_of g) cs
    → slice_range cs from to ≡ conns_of g cs
lines-are g from to cs fall at end =
    let length_is : length (conns_of g cs) ≡ count_by (is_conn_of g) cs = length-filter (is_conn_of g) cs in
    let long : to - from ≡ length (conns_of g cs) = omega (arith, length_is, at, end) in
    ap (λ n. take n (drop from cs)) long ∙ ap (λ n. take (length (conns_of g cs)) (drop n cs)) at ∙ stand g 0 cs fall

both-fit : (g : ℕ) (cs : List ConnLine) → count_by (is_before g) cs + count_by (is_conn_of g) cs ≤ length cs
both-fit g [] = omega arith
both-fit g (c ∷ cs) =
    by_tests (both-fit g cs) (is_before g c) (is_conn_of g c) (counted (is_before g) c cs) (counted (is_conn_of g) c cs)
    (λ e f. omega (arith, ltb-true c.group.0 g e, eqb-true c.group.0 g f))
  where
    by_tests : count_by (is_before g) cs + count_by (is_conn_of g) cs ≤ length cs → (p q : Bool)
        → count_by (is_before g) (c ∷ cs) ≡ (if p then 1 else 0) + count_by (is_before g) cs → count_by (is_conn_of g) (c ∷ cs) ≡ (if q then 1 else 0) + count_by (is_conn_of g) cs
        → (p ≡ true → q ≡ true → ⊥) → count_by (is_before g) (c ∷ cs) + count_by (is_conn_of g) (c ∷ cs) ≤ suc (length cs)
    by_tests rest true true a b apart = absurd (apart refl refl)
    by_tests rest true false a b apart = omega (arith, a, b, rest)
    by_tests rest false true a b apart = omega (arith, a, b, rest)
    by_tests rest false false a b apart = omega (arith, a, b, rest)

pub lines-fit : (g from many : ℕ) (cs : List ConnLine) → from ≡ count_by (is_before g) cs → many ≡ count_by (is_conn_of g) cs → from + many ≤ length cs
lines-fit g from many cs at count = omega (arith, both-fit g cs, at, count)

pub ruleset for_bounds = (lines-fit)

pub ruleset for_lines = (lines-are)

-- ## Groups of connections
pub groups-decided : (cs : List ConnLine) → Decides (list_all (λ (l : ConnLine). nat_lt l.group.0 FLOW_GROUPS) cs) (AllByRecursion (λ (l : ConnLine). l.group.0 < FLOW_GROUPS) cs)
groups-decided [] = (λ e. tt, λ all. refl)
groups-decided (c ∷ cs) = (
  λ e. (let parts = and_parts (nat_lt c.group.0 FLOW_GROUPS) (list_all (λ (l : ConnLine). nat_lt l.group.0 FLOW_GROUPS) cs) e in
      (ltb-true c.group.0 FLOW_GROUPS parts.0, (groups-decided cs).0 parts.1)),
  λ all. and_from (nat_lt c.group.0 FLOW_GROUPS) (list_all (λ (l : ConnLine). nat_lt l.group.0 FLOW_GROUPS) cs) (lt-ltb c.group.0 FLOW_GROUPS all.0) ((groups-decided cs).1 all.1),
)

-- ## Strays
wire-same : (a b : WireNo) → a.0 ≡ b.0 → a ≡ b
wire-same a b e = ap (λ (n : ℕ). (let w : WireNo = record { 0 = n } in w)) e

core-same : (a b : CoreId) → a.0 ≡ b.0 → a ≡ b
core-same a b e = ap (λ (n : ℕ). (let c : CoreId = record { 0 = n } in c)) e

pub stray-is : (s : Stray) (l : StrayLine) → l.w.0 ≡ s.w.0 → l.core.0 ≡ s.core.0 → l.kind ≡ s.kind → is_some l.reply ≡ is_some s.reply → IsStrayLine s l
stray-is s l a b c d = record { w = wire-same l.w s.w a; core = core-same l.core s.core b; kind = c; answered = d }

pub stray-parts : (s : Stray) (l : StrayLine) → IsStrayLine s l → (l.w.0 ≡ s.w.0) × (l.core.0 ≡ s.core.0) × (l.kind ≡ s.kind) × (is_some l.reply ≡ is_some s.reply)
stray-parts s l p = (ap (λ (w : WireNo). w.0) p.w, ap (λ (k : CoreId). k.0) p.core, p.kind, p.answered)

pub ruleset for_stray = (stray-is, stray-parts)

pub strays-from : (ss : List Stray) (ls : List StrayLine) → length ss ≡ length ls
    → ((k : ℕ) (d : Stray) (e : StrayLine) → k < length ss → IsStrayLine (get_or ss k d) (get_or ls k e)) → AreStrayLines ss ls
strays-from [] [] long each = tt
strays-from [] (l ∷ ls) long each = absurd (omega (arith, long))
strays-from (s ∷ ss) [] long each = absurd (omega (arith, long))
strays-from (s ∷ ss) (l ∷ ls) long each =
    (each 0 s l (omega arith), strays-from ss ls (omega (arith, long)) (λ k d e lt. each (suc k) d e (omega (arith, lt))))

pub strays-at : (ss : List Stray) (ls : List StrayLine) (k : ℕ) (d : Stray) (e : StrayLine) → AreStrayLines ss ls → k < length ss → IsStrayLine (get_or ss k d) (get_or ls k e)
strays-at [] ls k d e are lt = absurd (omega (arith, lt))
strays-at (s ∷ ss) [] k d e are lt = absurd are
strays-at (s ∷ ss) (l ∷ ls) zero d e are lt = are.0
strays-at (s ∷ ss) (l ∷ ls) (suc k) d e are lt = strays-at ss ls k d e are.1 (omega (arith, lt))

pub stray-fails : (ss : List Stray) (ls : List StrayLine) (i : ℕ) (s : Stray) (l e : StrayLine) (t : Bool) → Decides t (IsStrayLine s l) → l ≡ get_or ls i e → s ≡ get_or ss i s
    → i < length ss → t ≡ false → AreStrayLines ss ls → ⊥
stray-fails ss ls i s l e t decides there is lt fails are =
    both_ways t fails
    (decides.1 (subst (λ (x : Stray). IsStrayLine x l) (sym is) (subst (λ (y : StrayLine). IsStrayLine (get_or ss i s) y) (sym there) (strays-at ss ls i s e are lt))))

pub strays-long : (ss : List Stray) (ls : List StrayLine) → AreStrayLines ss ls → length ss ≡ length ls
strays-long [] [] are = refl
strays-long [] (l ∷ ls) are = absurd are
strays-long (s ∷ ss) [] are = absurd are
strays-long (s ∷ ss) (l ∷ ls) are = ap suc (strays-long ss ls are.1)

-- ## Connections
pub conn-is : (c : ConnEnd) (l : ConnLine) → l.remote ≡ c.flow.remote → l.remote_port ≡ c.flow.remote_port → l.local_port ≡ c.flow.local_port → l.iss ≡ c.iss → l.left ≡ c.left → l.wrote ≡ c.wrote
    → l.taken ≡ c.taken → IsConnLine c l
conn-is c l a b d e f g h = record { remote = a; remote_port = b; local_port = d; iss = e; left = f; wrote = g; taken = h }

pub conn-ends : (c : ConnEnd) (l : ConnLine) → IsConnLine c l → (l.remote ≡ c.flow.remote) × (l.remote_port ≡ c.flow.remote_port) × (l.local_port ≡ c.flow.local_port) × (l.iss ≡ c.iss)
conn-ends c l p = (p.remote, p.remote_port, p.local_port, p.iss)

pub conn-rest : (c : ConnEnd) (l : ConnLine) → IsConnLine c l → (l.left ≡ c.left) × (l.wrote ≡ c.wrote) × (l.taken ≡ c.taken)
conn-rest c l p = (p.left, p.wrote, p.taken)

pub ruleset for_conn = (conn-is, conn-ends, conn-rest)

pub conns-from : (cs : List ConnEnd) (ls : List ConnLine) → length cs ≡ length ls
    → ((k : ℕ) (d : ConnEnd) (e : ConnLine) → k < length cs → IsConnLine (get_or cs k d) (get_or ls k e)) → AreConnLines cs ls
conns-from [] [] long each = tt
conns-from [] (l ∷ ls) long each = absurd (omega (arith, long))
conns-from (c ∷ cs) [] long each = absurd (omega (arith, long))
conns-from (c ∷ cs) (l ∷ ls) long each =
    (each 0 c l (omega arith), conns-from cs ls (omega (arith, long)) (λ k d e lt. each (suc k) d e (omega (arith, lt))))

pub conns-at : (cs : List ConnEnd) (ls : List ConnLine) (k : ℕ) (d : ConnEnd) (e : ConnLine) → AreConnLines cs ls → k < length cs → IsConnLine (get_or cs k d) (get_or ls k e)
conns-at [] ls k d e are lt = absurd (omega (arith, lt))
conns-at (c ∷ cs) [] k d e are lt = absurd are
conns-at (c ∷ cs) (l ∷ ls) zero d e are lt = are.0
conns-at (c ∷ cs) (l ∷ ls) (suc k) d e are lt = conns-at cs ls k d e are.1 (omega (arith, lt))

pub conns-long : (cs : List ConnEnd) (ls : List ConnLine) → AreConnLines cs ls → length cs ≡ length ls
conns-long [] [] are = refl
conns-long [] (l ∷ ls) are = absurd are
conns-long (c ∷ cs) [] are = absurd are
conns-long (c ∷ cs) (l ∷ ls) are = ap suc (conns-long cs ls are.1)
