-- From epoch to epoch, and from the opening on.
use Rattle.std.proofs.Common.{◌≡◌, ◌<◌, ◌≤◌, ◌%◌, ℕ, zero, suc, List, [], ◌∷◌, ◌++◌, length, drop, map, get_or, true, false, Some, refl, ap, sym, subst, ◌∙◌, inl, inr, arith, length-append}
use Rattle.std.proofs.lemmas.Bool.{cases_lt}
use Rattle.std.proofs.lemmas.List.Elements.{recursion_from_All}
use Rattle.std.proofs.lemmas.List.{length-drop}
use Rattle.std.proofs.lemmas.List.Sums.{sum_by-cons}
use Rattle.std.specs.Prelude.{if◌then◌else◌, count_by, slice_get}
use Rattle.std.specs.List.{AllByRecursion}
use Rattle.ix_base.specs.declared.id.CoreId.{CoreId}
use Rattle.ix_nic.specs.Cards.{CardView, all_waiting, core_at, opened}
use Rattle.ix_nic.specs.declared.port.NicEnd.{NicEnd}
use Rattle.ix_nic.specs.Ports.{PortView}
use Rattle.ix_reta.specs.Table.{Table, core_from, core_of, opening_core}
use Rattle.ix_wire.specs.declared.entry.Entry.{Entry}
use Rattle.ix_wire.specs.declared.entry.Entry.TheVariants as wire
use Rattle.ix_wire.specs.Entries as wires
use Rattle.ix_wire.specs.Entries.{EachAllowed, EndsInSettle, IsWire, Terms, is_control, is_elsewhere, is_turn, is_within, moved_by, since_settle}
use Rattle.ix_wire.specs.Table.{opening_cores}
use Rattle.ix_feed.specs.Replays.{CanFeed, CanFollow, IsThere, IsUnderWay, ReplayView, closes, is_move, left_of}
use Rattle.ix_feed.specs.Told.{CardIsClear, CardMet, PortIsClear}
use Rattle.ix_feed.proofs.Following.{same_follow}
use Rattle.ix_feed.proofs.Lists.{within}

-- ## A meeting, and a settle
same_waiting : (ps qs : List PortView) → length qs ≡ length ps → ((r : ℕ) (d : PortView) → r < length ps → (get_or qs r d).behind ≡ (get_or ps r d).behind)
    → all_waiting ps ≡ all_waiting qs
same_waiting [] [] count same = refl
same_waiting [] (q ∷ qs) count same = absurd (omega (arith, count))
same_waiting (p ∷ ps) [] count same = absurd (omega (arith, count))
same_waiting (p ∷ ps) (q ∷ qs) count same =
    let first : length q.behind ≡ length p.behind = ap length (same 0 p (omega arith)) in
    let rest : all_waiting ps ≡ all_waiting qs = same_waiting ps qs (omega (arith, count)) (λ r d lt. same (suc r) d (omega (arith, lt))) in
    omega (arith, first, rest, sum_by-cons (λ (v : PortView). length v.behind) p ps, sum_by-cons (λ (v : PortView). length v.behind) q qs)

met_under_way : (x y : CardView) (es : List Entry) → IsUnderWay x es → CardMet x y → IsUnderWay y es
met_under_way x y es u m = record {
  more = u.more;
  are_open = λ r d lt. let below = subst (λ n. r < n) m.count lt in (m.ports r d below).ended ∙ u.are_open r d below;
  controls = u.controls;
  most = u.most;
  behind = λ r d lt.
      let below = subst (λ n. r < n) m.count lt in
      let same : length (get_or y.ports r d).behind ≡ length (get_or x.ports r d).behind = ap length (m.ports r d below).behind in
      omega (arith, same, u.behind r d below);
  few = u.few;
}

pub meets : (x y : CardView) (r : ReplayView) → CanFeed x r → CardMet x y → CanFeed y r
meets x y r f m = record {
  follow = same_follow x y r.frames (left_of r) f.follow m.table m.count;
  under_way = λ not_ended. met_under_way x y (left_of r) (f.under_way not_ended) m;
  over = λ ended. record {
    waits = (f.over ended).waits ∙ same_waiting x.ports y.ports m.count (λ i d lt. (m.ports i d lt).behind);
    few = (f.over ended).few;
  };
}

clear_under_way : (card : CardView) (es : List Entry) → CardIsClear card → 0 < length es → EachAllowed (is_within is_control 1000) (since_settle is_control) 0 es
    → IsUnderWay card es
clear_under_way card es clear more few = record {
  more = more;
  are_open = λ r d lt. (clear.ports r d lt).not_ended;
  controls = 0;
  most = omega arith;
  behind = λ r d lt. let none : length (get_or card.ports r d).behind ≡ 0 = ap length (clear.ports r d lt).none in omega (arith, none);
  few = few;
}

pub settles : (x y : CardView) (r : ReplayView) → CanFeed x r → r.ended ≡ true → y.table ≡ x.table → length y.ports ≡ length x.ports → CardIsClear y
    → length r.lines < length r.entries → CanFeed y (record r { ended = false })
settles x y r f ended table count clear more = record {
  follow = same_follow x y r.frames (left_of r) f.follow table count;
  under_way = λ not_ended. clear_under_way y (left_of r) clear (omega (arith, more, length-drop (length r.lines) r.entries)) (f.over ended).few;
  over = λ is. absurd (cc);
}

-- ## The opening
there_of : (x : Terms) (cores : ℕ) (frames : List (List ℕ)) (e : Entry) → x.cores ≡ cores → length x.own ≡ length frames → wires.IsThere x e → IsThere cores frames e
there_of x cores frames (wire.Frame rec) c o is = let lt = within x.own rec false is in omega (arith, lt, o)
there_of x cores frames (wire.Tag group) c o is = is
there_of x cores frames (wire.Move group to) c o is = (is.0, omega (arith, is.1, c))
there_of x cores frames (wire.Time t) c o is = tt
there_of x cores frames wire.Settle c o is = tt

all_there : (x : Terms) (cores : ℕ) (frames : List (List ℕ)) (es : List Entry) → x.cores ≡ cores → length x.own ≡ length frames
    → AllByRecursion (wires.IsThere x) es → AllByRecursion (IsThere cores frames) es
all_there x cores frames [] c o is = is
all_there x cores frames (e ∷ es) c o is = (there_of x cores frames e c o is.0, all_there x cores frames es c o is.1)

closes_end : (before : List Entry) → closes (before ++ wire.Settle ∷ []) ≡ true
closes_end [] = refl
closes_end (e ∷ []) = refl
closes_end (e ∷ f ∷ before) = closes_end (f ∷ before)

end_closes : (es : List Entry) → EndsInSettle es → closes es ≡ true
end_closes es e = ap closes e.is ∙ closes_end e.before

end_more : (es : List Entry) → EndsInSettle es → 0 < length es
end_more es e = omega (arith, ap length e.is, length-append e.before (wire.Settle ∷ []))

cores_count : (live n : ℕ) → length (opening_cores live n) ≡ n
unfolding opening_cores
cores_count live zero = refl
cores_count live (suc n) = length-append (opening_cores live n) (record { 0 = n % 128 % live } ∷ []) ∙ omega (arith, cores_count live n)

get_front : {X : Type 0} (xs ys : List X) (i : ℕ) → i < length xs → slice_get (xs ++ ys) i ≡ slice_get xs i
get_front [] ys i lt = absurd (omega arith)
get_front (x ∷ xs) ys zero lt = refl
get_front (x ∷ xs) ys (suc i) lt = get_front xs ys i (omega (arith, lt))

get_end : {X : Type 0} (xs : List X) (y : X) (i : ℕ) → i ≡ length xs → slice_get (xs ++ y ∷ []) i ≡ Some y
get_end [] y zero is = refl
get_end [] y (suc i) is = absurd (omega (arith, is))
get_end (x ∷ xs) y zero is = absurd (omega (arith, is))
get_end (x ∷ xs) y (suc i) is = get_end xs y i (omega (arith, is))

core_opened : (live n g : ℕ) → g < n → slice_get (opening_cores live n) g ≡ Some (opening_core live g)
unfolding opening_cores
core_opened live zero g lt = absurd (omega arith)
core_opened live (suc n) g lt =
    elim (cases_lt g n) [
      | inl below ↦
          get_front (opening_cores live n) (record { 0 = n % 128 % live } ∷ []) g (omega (arith, below, cores_count live n)) ∙ core_opened live n g below
      | inr above ↦
          let is : g ≡ n = omega (arith, lt, above) in
          get_end (opening_cores live n) (record { 0 = n % 128 % live }) g (omega (arith, is, cores_count live n))
          ∙ ap (λ k. Some (opening_core live k)) (sym is)
    ]

pub no_turns : (live g : ℕ) → core_of live [] g ≡ opening_core live g
unfolding core_from
no_turns live g = refl

table_opened : (live : ℕ) (t : Table) → t.live ≡ live → t.turns ≡ [] → (g : ℕ) → g < 512 → slice_get (opening_cores live 512) g ≡ Some (core_at t g)
table_opened live t l none g lt =
    core_opened live 512 g lt
    ∙ ap (λ (c : CoreId). Some c) (sym (no_turns live g) ∙ ap (λ k. core_of k [] g) (sym l) ∙ ap (λ ts. core_of t.live ts g) (sym none))

pub wires_feed : (x : Terms) (card : CardView) (r : ReplayView) → IsWire x r.entries → length x.own ≡ length r.frames → r.lines ≡ [] → x.cores ≡ length card.ports
    → card.table.live ≡ x.live → card.table.turns ≡ [] → count_by is_move r.entries ≤ card.table.room → CardIsClear card → CanFeed card (record r { ended = false })
wires_feed x card r w own none cores live turns room clear =
    let all : r.entries ≡ left_of r = ap (λ (ls : List _). drop (length ls) r.entries) (sym none) in
    record {
      follow = subst (CanFollow card r.frames) all (record {
        there = all_there x (length card.ports) r.frames r.entries cores own (recursion_from_All (wires.IsThere x) r.entries w.so_far.there);
        at = opening_cores x.live 512;
        table = table_opened x.live card.table live turns;
        elsewhere = w.so_far.elsewhere;
        turns = room;
        closed = end_closes r.entries w.ends;
      });
      under_way = λ not_ended. subst (IsUnderWay card) all (clear_under_way card r.entries clear (end_more r.entries w.ends) w.so_far.controls);
      over = λ ended. absurd (cc);
    }

move_turns : (e : Entry) → (if is_move e then 1 else 0) ≤ (if is_turn e then 1 else 0)
move_turns (wire.Frame rec) = omega arith
move_turns (wire.Tag group) = omega arith
move_turns (wire.Move group to) = omega arith
move_turns (wire.Time t) = omega arith
move_turns wire.Settle = omega arith

fewer_moves : (es : List Entry) → count_by is_move es ≤ count_by is_turn es
fewer_moves [] = omega arith
fewer_moves (e ∷ es) =
    omega (
      arith,
      move_turns e,
      fewer_moves es,
      sum_by-cons (λ (x : Entry). if is_move x then 1 else 0) e es,
      sum_by-cons (λ (x : Entry). if is_turn x then 1 else 0) e es,
    )

pub few_moves : (x : Terms) (es : List Entry) → IsWire x es → count_by is_move es ≤ 16777216
few_moves x es w = omega (arith, fewer_moves es, w.so_far.turns)

clear_ports : (ends : List NicEnd) (r : ℕ) (d : PortView) → r < length (map opened ends) → PortIsClear (get_or (map opened ends) r d)
clear_ports [] r d lt = absurd (omega arith)
clear_ports (e ∷ ends) zero d lt = record { none = refl; not_ended = refl }
clear_ports (e ∷ ends) (suc r) d lt = clear_ports ends r d (omega (arith, lt))

pub clear_card : (table : Table) (ends : List NicEnd) → CardIsClear (record { table = table; ports = map opened ends })
clear_card table ends = record { ports = clear_ports ends }
