use Rattle.std.proofs.Common.{◌≡◌, ◌∙◌, ℕ, [], length, rules, arith, ap}
use Rattle.std.proofs.lemmas.Grind.{common_steps}
use Rattle.std.proofs.lemmas.Bool.Decides.{nat_tests}
use Rattle.ix_time.specs.Due.{GivesDue, emptied, renumbered, without_keys}
use Rattle.ix_time.specs.Standings.{standing_of, in_order}
use Rattle.ix_time.proofs.ViewLemmas.{later-map, later-ticks}
use Rattle.ix_time.proofs.TurnLemmas.{Read, Turn, gives-none, no-entries, read-from, given, times, keys-taken, keys-none, all-none, turned, turned-ticks, idle, idle-ticks, advances-to}
use Rattle.ix_time.proofs.deadlines.Deadlines.due.Goals as goal

pub invariant_of-self : goal.invariant_of-self
invariant_of-self c =
    let advances = advances-to c.self.inside.clock c.args.now c.max-latest.result c.max-latest.ensures in
    let read : Read c.self.inside.clock c.args.now c.self.inside.standings c.self.inside.places.items c.in_ok-entries.entries.items =
    read-from c.self.inside.clock c.args.now c.self.inside.standings c.self.inside.places.items c.in_ok-entries.entries.items c.self.invariant (c.in_ok-entries.ensures ∙ ap (emptied c.self.inside.clock c.args.now 0) c.as_slice.ensures.value) in
    let zero : length c.in_ok-entries.entries.items ≡ 0 = grind (arith, common_steps, nat_tests, c.if-is_empty.ensures) in
    let none : c.in_ok-entries.entries.items ≡ [] = no-entries c.in_ok-entries.entries.items zero in
    idle c.self.inside.clock c.args.now (record { latest = c.max-latest.result; last = c.args.now }) c.self.inside.standings c.self.inside.places.items c.in_ok-entries.entries.items c.self.invariant read advances none

pub returns-then-is_empty-clause-given : goal.returns-then-is_empty-clause-given
returns-then-is_empty-clause-given c =
    let advances = advances-to c.self.inside.clock c.args.now c.max-latest.result c.max-latest.ensures in
    let read : Read c.self.inside.clock c.args.now c.self.inside.standings c.self.inside.places.items c.in_ok-entries.entries.items =
    read-from c.self.inside.clock c.args.now c.self.inside.standings c.self.inside.places.items c.in_ok-entries.entries.items c.self.invariant (c.in_ok-entries.ensures ∙ ap (emptied c.self.inside.clock c.args.now 0) c.as_slice.ensures.value) in
    let zero : length c.in_ok-entries.entries.items ≡ 0 = grind (arith, common_steps, nat_tests, c.if-is_empty.ensures) in
    let none : c.in_ok-entries.entries.items ≡ [] = no-entries c.in_ok-entries.entries.items zero in
    let gives : GivesDue c.args.now (in_order c.self.inside.standings) c.new.result.items =
    given c.self.inside.clock c.args.now (record { latest = c.max-latest.result; last = c.args.now }) c.self.inside.standings c.self.inside.places.items c.in_ok-entries.entries.items c.new.result.items read advances
    (gives-none c.args.now c.in_ok-entries.entries.items c.new.result.items none c.new.ensures.items) in
    rw (← c.self.view_is) gives

pub returns-then-is_empty-clause-times : goal.returns-then-is_empty-clause-times
returns-then-is_empty-clause-times c =
    let advances = advances-to c.self.inside.clock c.args.now c.max-latest.result c.max-latest.ensures in
    let read : Read c.self.inside.clock c.args.now c.self.inside.standings c.self.inside.places.items c.in_ok-entries.entries.items =
    read-from c.self.inside.clock c.args.now c.self.inside.standings c.self.inside.places.items c.in_ok-entries.entries.items c.self.invariant (c.in_ok-entries.ensures ∙ ap (emptied c.self.inside.clock c.args.now 0) c.as_slice.ensures.value) in
    let zero : length c.in_ok-entries.entries.items ≡ 0 = grind (arith, common_steps, nat_tests, c.if-is_empty.ensures) in
    let none : c.in_ok-entries.entries.items ≡ [] = no-entries c.in_ok-entries.entries.items zero in
    let gives : GivesDue c.args.now (in_order c.self.inside.standings) c.new.result.items =
    given c.self.inside.clock c.args.now (record { latest = c.max-latest.result; last = c.args.now }) c.self.inside.standings c.self.inside.places.items c.in_ok-entries.entries.items c.new.result.items read advances
    (gives-none c.args.now c.in_ok-entries.entries.items c.new.result.items none c.new.ensures.items) in
    rw (← c.self.view_is) (times c.args.now c.self.inside.standings c.new.result.items gives)

pub returns-then-is_empty-clause-ok : goal.returns-then-is_empty-clause-ok
returns-then-is_empty-clause-ok c =
    let advances = advances-to c.self.inside.clock c.args.now c.max-latest.result c.max-latest.ensures in
    let read : Read c.self.inside.clock c.args.now c.self.inside.standings c.self.inside.places.items c.in_ok-entries.entries.items =
    read-from c.self.inside.clock c.args.now c.self.inside.standings c.self.inside.places.items c.in_ok-entries.entries.items c.self.invariant (c.in_ok-entries.ensures ∙ ap (emptied c.self.inside.clock c.args.now 0) c.as_slice.ensures.value) in
    let zero : length c.in_ok-entries.entries.items ≡ 0 = grind (arith, common_steps, nat_tests, c.if-is_empty.ensures) in
    let none : c.in_ok-entries.entries.items ≡ [] = no-entries c.in_ok-entries.entries.items zero in
    rw (← c.self.view_is) (later-map c.args.now c.self.inside.standings c.self.inside.standings (idle-ticks c.self.inside.clock c.args.now (record { latest = c.max-latest.result; last = c.args.now }) c.self.inside.standings c.self.inside.places.items c.in_ok-entries.entries.items read advances none))

pub returns-then-is_empty-clause-ticks : goal.returns-then-is_empty-clause-ticks
returns-then-is_empty-clause-ticks c =
    let advances = advances-to c.self.inside.clock c.args.now c.max-latest.result c.max-latest.ensures in
    let read : Read c.self.inside.clock c.args.now c.self.inside.standings c.self.inside.places.items c.in_ok-entries.entries.items =
    read-from c.self.inside.clock c.args.now c.self.inside.standings c.self.inside.places.items c.in_ok-entries.entries.items c.self.invariant (c.in_ok-entries.ensures ∙ ap (emptied c.self.inside.clock c.args.now 0) c.as_slice.ensures.value) in
    let zero : length c.in_ok-entries.entries.items ≡ 0 = grind (arith, common_steps, nat_tests, c.if-is_empty.ensures) in
    let none : c.in_ok-entries.entries.items ≡ [] = no-entries c.in_ok-entries.entries.items zero in
    rw (← c.self.view_is) (λ q. later-ticks c.args.now q c.self.inside.standings c.self.inside.standings (idle-ticks c.self.inside.clock c.args.now (record { latest = c.max-latest.result; last = c.args.now }) c.self.inside.standings c.self.inside.places.items c.in_ok-entries.entries.items read advances none))

pub invariant_of-self-2 : goal.invariant_of-self-2
invariant_of-self-2 c =
    let advances = advances-to c.self.inside.clock c.args.now c.max-latest.result c.max-latest.ensures in
    let read : Read c.self.inside.clock c.args.now c.self.inside.standings c.self.inside.places.items c.in_ok-entries.entries.items =
    read-from c.self.inside.clock c.args.now c.self.inside.standings c.self.inside.places.items c.in_ok-entries.entries.items c.self.invariant (c.in_ok-entries.ensures ∙ ap (emptied c.self.inside.clock c.args.now 0) c.as_slice.ensures.value) in
    let gives : GivesDue c.args.now (in_order c.self.inside.standings) c.in_ok-keys.keys.items =
    given c.self.inside.clock c.args.now (record { latest = c.max-latest.result; last = c.args.now }) c.self.inside.standings c.self.inside.places.items c.in_ok-entries.entries.items c.in_ok-keys.keys.items read advances (rw c.as_slice-2.ensures.value at c.in_ok-keys.ensures) in
    let taken : (q : ℕ) → standing_of q c.take_keys.new.standings ≡ without_keys q c.in_ok-keys.keys.items (standing_of q c.self.inside.standings) = rw (← c.as_slice-4.ensures.value) c.take_keys.ensures in
    let numbered : (q : ℕ) → standing_of q c.renumber.new.standings ≡ renumbered q c.in_ok-new.new.items (standing_of q c.take_keys.new.standings) = rw (← c.as_slice-5.ensures.value) c.renumber.ensures in
    let whole : length c.self.inside.places.items ≡ 1408 = search rules in
    let turn : Turn c.self.inside.clock c.args.now (record { latest = c.max-latest.result; last = c.args.now }) c.self.inside.standings c.renumber.new.standings c.self.inside.places.items c.in_ok-new.new.items c.replace_emptied.new.places.items c.in_ok-entries.entries.items =
    record {
      kept = c.self.invariant;
      read = read;
      advances = advances;
      absent = λ q none. numbered q ∙ ap (renumbered q c.in_ok-new.new.items) (keys-none c.self.inside.standings c.take_keys.new.standings c.in_ok-keys.keys.items taken q none) ∙ all-none q c.in_ok-new.new.items;
      changed = λ q s found. numbered q ∙ ap (renumbered q c.in_ok-new.new.items) (keys-taken c.args.now c.self.inside.standings c.take_keys.new.standings c.in_ok-keys.keys.items gives taken q s found);
      fresh-is = rw (← c.as_slice-3.ensures.value) c.in_ok-new.ensures.places;
      after-is = c.replace_emptied.ensures.places;
      made = c.replace_emptied.ensures.len ∙ whole;
    } in
    turned c.self.inside.clock c.args.now (record { latest = c.max-latest.result; last = c.args.now }) c.self.inside.standings c.renumber.new.standings c.self.inside.places.items c.in_ok-new.new.items c.replace_emptied.new.places.items c.in_ok-entries.entries.items turn

pub returns-clause-given : goal.returns-clause-given
returns-clause-given c =
    let advances = advances-to c.self.inside.clock c.args.now c.max-latest.result c.max-latest.ensures in
    let read : Read c.self.inside.clock c.args.now c.self.inside.standings c.self.inside.places.items c.in_ok-entries.entries.items =
    read-from c.self.inside.clock c.args.now c.self.inside.standings c.self.inside.places.items c.in_ok-entries.entries.items c.self.invariant (c.in_ok-entries.ensures ∙ ap (emptied c.self.inside.clock c.args.now 0) c.as_slice.ensures.value) in
    let gives : GivesDue c.args.now (in_order c.self.inside.standings) c.in_ok-keys.keys.items =
    given c.self.inside.clock c.args.now (record { latest = c.max-latest.result; last = c.args.now }) c.self.inside.standings c.self.inside.places.items c.in_ok-entries.entries.items c.in_ok-keys.keys.items read advances (rw c.as_slice-2.ensures.value at c.in_ok-keys.ensures) in
    rw (← c.self.view_is) gives

pub returns-clause-times : goal.returns-clause-times
returns-clause-times c =
    let advances = advances-to c.self.inside.clock c.args.now c.max-latest.result c.max-latest.ensures in
    let read : Read c.self.inside.clock c.args.now c.self.inside.standings c.self.inside.places.items c.in_ok-entries.entries.items =
    read-from c.self.inside.clock c.args.now c.self.inside.standings c.self.inside.places.items c.in_ok-entries.entries.items c.self.invariant (c.in_ok-entries.ensures ∙ ap (emptied c.self.inside.clock c.args.now 0) c.as_slice.ensures.value) in
    let gives : GivesDue c.args.now (in_order c.self.inside.standings) c.in_ok-keys.keys.items =
    given c.self.inside.clock c.args.now (record { latest = c.max-latest.result; last = c.args.now }) c.self.inside.standings c.self.inside.places.items c.in_ok-entries.entries.items c.in_ok-keys.keys.items read advances (rw c.as_slice-2.ensures.value at c.in_ok-keys.ensures) in
    rw (← c.self.view_is) (times c.args.now c.self.inside.standings c.in_ok-keys.keys.items gives)

pub returns-clause-ok : goal.returns-clause-ok
returns-clause-ok c =
    let advances = advances-to c.self.inside.clock c.args.now c.max-latest.result c.max-latest.ensures in
    let read : Read c.self.inside.clock c.args.now c.self.inside.standings c.self.inside.places.items c.in_ok-entries.entries.items =
    read-from c.self.inside.clock c.args.now c.self.inside.standings c.self.inside.places.items c.in_ok-entries.entries.items c.self.invariant (c.in_ok-entries.ensures ∙ ap (emptied c.self.inside.clock c.args.now 0) c.as_slice.ensures.value) in
    let gives : GivesDue c.args.now (in_order c.self.inside.standings) c.in_ok-keys.keys.items =
    given c.self.inside.clock c.args.now (record { latest = c.max-latest.result; last = c.args.now }) c.self.inside.standings c.self.inside.places.items c.in_ok-entries.entries.items c.in_ok-keys.keys.items read advances (rw c.as_slice-2.ensures.value at c.in_ok-keys.ensures) in
    let taken : (q : ℕ) → standing_of q c.take_keys.new.standings ≡ without_keys q c.in_ok-keys.keys.items (standing_of q c.self.inside.standings) = rw (← c.as_slice-4.ensures.value) c.take_keys.ensures in
    let numbered : (q : ℕ) → standing_of q c.renumber.new.standings ≡ renumbered q c.in_ok-new.new.items (standing_of q c.take_keys.new.standings) = rw (← c.as_slice-5.ensures.value) c.renumber.ensures in
    let whole : length c.self.inside.places.items ≡ 1408 = search rules in
    let turn : Turn c.self.inside.clock c.args.now (record { latest = c.max-latest.result; last = c.args.now }) c.self.inside.standings c.renumber.new.standings c.self.inside.places.items c.in_ok-new.new.items c.replace_emptied.new.places.items c.in_ok-entries.entries.items =
    record {
      kept = c.self.invariant;
      read = read;
      advances = advances;
      absent = λ q none. numbered q ∙ ap (renumbered q c.in_ok-new.new.items) (keys-none c.self.inside.standings c.take_keys.new.standings c.in_ok-keys.keys.items taken q none) ∙ all-none q c.in_ok-new.new.items;
      changed = λ q s found. numbered q ∙ ap (renumbered q c.in_ok-new.new.items) (keys-taken c.args.now c.self.inside.standings c.take_keys.new.standings c.in_ok-keys.keys.items gives taken q s found);
      fresh-is = rw (← c.as_slice-3.ensures.value) c.in_ok-new.ensures.places;
      after-is = c.replace_emptied.ensures.places;
      made = c.replace_emptied.ensures.len ∙ whole;
    } in
    rw (← c.self.view_is) (later-map c.args.now c.self.inside.standings c.renumber.new.standings (turned-ticks c.self.inside.clock c.args.now (record { latest = c.max-latest.result; last = c.args.now }) c.self.inside.standings c.renumber.new.standings c.self.inside.places.items c.in_ok-new.new.items c.replace_emptied.new.places.items c.in_ok-entries.entries.items turn))

pub returns-clause-ticks : goal.returns-clause-ticks
returns-clause-ticks c =
    let advances = advances-to c.self.inside.clock c.args.now c.max-latest.result c.max-latest.ensures in
    let read : Read c.self.inside.clock c.args.now c.self.inside.standings c.self.inside.places.items c.in_ok-entries.entries.items =
    read-from c.self.inside.clock c.args.now c.self.inside.standings c.self.inside.places.items c.in_ok-entries.entries.items c.self.invariant (c.in_ok-entries.ensures ∙ ap (emptied c.self.inside.clock c.args.now 0) c.as_slice.ensures.value) in
    let gives : GivesDue c.args.now (in_order c.self.inside.standings) c.in_ok-keys.keys.items =
    given c.self.inside.clock c.args.now (record { latest = c.max-latest.result; last = c.args.now }) c.self.inside.standings c.self.inside.places.items c.in_ok-entries.entries.items c.in_ok-keys.keys.items read advances (rw c.as_slice-2.ensures.value at c.in_ok-keys.ensures) in
    let taken : (q : ℕ) → standing_of q c.take_keys.new.standings ≡ without_keys q c.in_ok-keys.keys.items (standing_of q c.self.inside.standings) = rw (← c.as_slice-4.ensures.value) c.take_keys.ensures in
    let numbered : (q : ℕ) → standing_of q c.renumber.new.standings ≡ renumbered q c.in_ok-new.new.items (standing_of q c.take_keys.new.standings) = rw (← c.as_slice-5.ensures.value) c.renumber.ensures in
    let whole : length c.self.inside.places.items ≡ 1408 = search rules in
    let turn : Turn c.self.inside.clock c.args.now (record { latest = c.max-latest.result; last = c.args.now }) c.self.inside.standings c.renumber.new.standings c.self.inside.places.items c.in_ok-new.new.items c.replace_emptied.new.places.items c.in_ok-entries.entries.items =
    record {
      kept = c.self.invariant;
      read = read;
      advances = advances;
      absent = λ q none. numbered q ∙ ap (renumbered q c.in_ok-new.new.items) (keys-none c.self.inside.standings c.take_keys.new.standings c.in_ok-keys.keys.items taken q none) ∙ all-none q c.in_ok-new.new.items;
      changed = λ q s found. numbered q ∙ ap (renumbered q c.in_ok-new.new.items) (keys-taken c.args.now c.self.inside.standings c.take_keys.new.standings c.in_ok-keys.keys.items gives taken q s found);
      fresh-is = rw (← c.as_slice-3.ensures.value) c.in_ok-new.ensures.places;
      after-is = c.replace_emptied.ensures.places;
      made = c.replace_emptied.ensures.len ∙ whole;
    } in
    rw (← c.self.view_is) (λ q. later-ticks c.args.now q c.self.inside.standings c.renumber.new.standings (turned-ticks c.self.inside.clock c.args.now (record { latest = c.max-latest.result; last = c.args.now }) c.self.inside.standings c.renumber.new.standings c.self.inside.places.items c.in_ok-new.new.items c.replace_emptied.new.places.items c.in_ok-entries.entries.items turn))
