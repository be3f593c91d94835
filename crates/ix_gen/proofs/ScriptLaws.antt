-- The whole script is read.
use Rattle.std.proofs.Common.{◌≡◌, ◌≢◌, ℕ, zero, suc, ◌+◌, ◌-◌, ◌*◌, ◌%◌, ◌<◌, ◌≤◌, List, [], ◌∷◌, ◌++◌, length, refl, ap, sym, ◌∙◌, subst, arith, Bool, true, false, Option, Some, None, append_assoc, append-nil, codes}
use Rattle.std.specs.Prelude.{◌==◌, ◌||◌, nat_lt, not, Ok, Result, slice_get, slice_set}
use Rattle.std.specs.List.{list_all, list_any}
use Rattle.std.specs.Fmt.{decimal}
use Rattle.std.proofs.lemmas.Bool.{lt-ltb, ne_eqb}
use Rattle.std.proofs.lemmas.Bool.Decides.{nat_tests}
use Rattle.std.proofs.lemmas.List.{length-replicate}
use Rattle.ix_base.specs.declared.id.CoreId.{CoreId}
use Rattle.ix_cp.specs.Plan.{is_core}
use Rattle.ix_wire.specs.declared.command.Command.TheVariants as commands
use Rattle.ix_wire.specs.declared.entry.Entry.{Entry}
use Rattle.ix_wire.specs.declared.entry.Entry.TheVariants.{Tag, Move, Settle}
use Rattle.ix_wire.specs.declared.fault.ScriptKind.{ScriptKind}
use Rattle.ix_wire.specs.declared.progress.Progress.{Progress}
use Rattle.ix_wire.specs.Chain.{◌>>=◌}
use Rattle.ix_wire.specs.Progress.{core_of, is_printable, line_run, move_run, run, tag_run, with_steps, with_tags}
use Rattle.ix_wire.specs.Script.{entries_unless, finish, lines_run, opening, wire_of}
use Rattle.ix_wire.specs.Table.{Standing, groups_from, is_live_core, is_on, is_tag, is_tagged, is_untagged, no_tags, opening_cores, opening_table}
use Rattle.ix_wire.specs.Text.{lines_of}
use Rattle.ix_wire.specs.Wire.{settled, start}
use Rattle.ix_gen.specs.Texts.{class_behind, move_lines, round_lines, script_text}
use Rattle.ix_gen.specs.Wire.{ScriptIsRead, core, frames_from, group, move_entries, none_own, round_entries, wire_made}
use Rattle.ix_gen.proofs.LineLaws.{line_ends, line_runs, settle_line, frames_line, tag_line, move_line, settle_says, frames_says, tag_says, move_says}
use Rattle.ix_gen.proofs.EntryLaws.{framed, frames_are_run, records_are, settle_is_run, standing, state, step_is, tag_is, written}
use Rattle.ix_gen.proofs.TableLaws.{Stands, class_set, moved_stands, none_left, opening_stands, set_class}

-- ---- a piece of the script: behind it the lines that are left go on from another state
pub record Reaches (limit : ℕ) (own : List Bool) (text : List ℕ) (n m : ℕ) (p q : Progress) : Type 0 where
  pub each : (rest : List ℕ) → lines_run limit own n p (lines_of (text ++ rest)) ≡ lines_run limit own m q (lines_of rest)

line_done : (limit : ℕ) (own : List Bool) (n : ℕ) (p q : Progress) (line : List ℕ) (lines : List (List ℕ)) → n < limit
    → line_run own (n + 1) line p ≡ Ok q → lines_run limit own n p (line ∷ lines) ≡ lines_run limit own (n + 1) q lines
line_done limit own n p q line lines room is =
    let more : (n == limit) ≡ false = grind (arith, nat_tests) in
    rw (more, is) refl

line_reaches : (limit : ℕ) (own : List Bool) (n : ℕ) (p q : Progress) (line : List ℕ) → n < limit → list_all is_printable line ≡ true
    → line_run own (n + 1) line p ≡ Ok q → Reaches limit own (line ++ 10 ∷ []) n (n + 1) p q
line_reaches limit own n p q line room printable is = record {
  each = λ rest.
      ap (λ text. lines_run limit own n p (lines_of text)) (append_assoc line (10 ∷ []) rest)
      ∙ ap (lines_run limit own n p) (line_ends line rest printable)
      ∙ line_done limit own n p q line (lines_of rest) room is;
}

reaches_then : (limit : ℕ) (own : List Bool) (a b : List ℕ) (n m k : ℕ) (p q r : Progress)
    → Reaches limit own a n m p q → Reaches limit own b m k q r → Reaches limit own (a ++ b) n k p r
reaches_then limit own a b n m k p q r x y = record {
  each = λ rest. ap (λ text. lines_run limit own n p (lines_of text)) (append_assoc a b rest) ∙ x.each (b ++ rest) ∙ y.each rest;
}

-- ---- a round
round_regroup : (f a b s : List ℕ)
    → ((((f ++ 32 ∷ []) ++ a) ++ 32 ∷ []) ++ b) ++ (10 ∷ (s ++ 10 ∷ [])) ≡ ((f ++ 32 ∷ (a ++ 32 ∷ b)) ++ 10 ∷ []) ++ (s ++ 10 ∷ [])
round_regroup f a b s = simp append_assoc

round_text : (conns round : ℕ)
    → round_lines conns round
    ≡ ((codes "frames" ++ 32 ∷ (decimal (round * conns) ++ 32 ∷ decimal (round * conns + conns - 1))) ++ 10 ∷ []) ++ (codes "settle" ++ 10 ∷ [])
unfolding round_lines
round_text conns round = round_regroup (codes "frames") (decimal (round * conns)) (decimal (round * conns + conns - 1)) (codes "settle")

frames_reach : (limit total n a conns : ℕ) (es : List Entry) (controls frames moves : ℕ) (t : Standing) (begun : Bool)
    → n + 1 < limit → 1 ≤ conns → a + conns ≤ total → total < 10000 → frames + conns ≤ 262144
    → Reaches limit (none_own total)
    (((codes "frames" ++ 32 ∷ (decimal a ++ 32 ∷ decimal (a + conns - 1))) ++ 10 ∷ []) ++ (codes "settle" ++ 10 ∷ []))
    n (n + 1 + 1) (state (written es 0 controls frames moves) t begun)
    (state (written (es ++ (frames_from 0 a conns ++ Settle ∷ [])) 0 0 (frames + conns) moves) t true)
frames_reach limit total n a conns es controls frames moves t begun room some fits few count =
    let own = none_own total in
    let p = state (written es 0 controls frames moves) t begun in
    let f = framed a conns es 0 controls frames moves count in
    let q = state f.behind t true in
    let line = frames_line a (a + conns - 1) (omega arith) (omega arith) in
    let there : nat_lt (a + conns - 1) (length own) ≡ true =
    lt-ltb (a + conns - 1) (length own) (let l : length own ≡ total = length-replicate total false in omega (arith, l)) in
    let first : line_run own (n + 1) (codes "frames" ++ 32 ∷ (decimal a ++ 32 ∷ decimal (a + conns - 1))) p ≡ Ok q =
    line_runs own (n + 1) _ _ p (commands.Frames a (a + conns - 1)) line
    (frames_says begun a (a + conns - 1) (omega arith) (omega arith) (omega arith))
    ∙ frames_are_run own (n + 1) a (a + conns - 1) _ (state (written es 0 controls frames moves) t true) f.behind there
    (records_are total a conns some fits) f.is in
    let second : line_run own (n + 1 + 1) (codes "settle") q ≡ Ok (state (settled f.behind) t true) =
    line_runs own (n + 1 + 1) _ _ q commands.Settle settle_line (settle_says true)
    ∙ settle_is_run own (n + 1 + 1) q in
    let last : line_run own (n + 1 + 1) (codes "settle") q
    ≡ Ok (state (written (es ++ (frames_from 0 a conns ++ Settle ∷ [])) 0 0 (frames + conns) moves) t true) =
    second ∙ ap (λ w. Ok (state w t true)) f.settles in
    reaches_then limit own _ _ n (n + 1) (n + 1 + 1) p q _
    (line_reaches limit own n p q _ (omega arith) line.printable first)
    (line_reaches limit own (n + 1) q _ (codes "settle") room settle_line.printable last)

pub round_reaches : (limit total n conns round : ℕ) (es : List Entry) (controls frames moves : ℕ) (t : Standing) (begun : Bool)
    → n + 1 < limit → 1 ≤ conns → round * conns + conns ≤ total → total < 10000 → frames + conns ≤ 262144
    → Reaches limit (none_own total) (round_lines conns round) n (n + 1 + 1) (state (written es 0 controls frames moves) t begun)
    (state (written (es ++ round_entries conns round) 0 0 (frames + conns) moves) t true)
round_reaches limit total n conns round es controls frames moves t begun room some fits few count =
    subst (λ text. Reaches limit (none_own total) text n (n + 1 + 1) (state (written es 0 controls frames moves) t begun)
    (state (written (es ++ round_entries conns round) 0 0 (frames + conns) moves) t true))
    (sym (round_text conns round))
    (frames_reach limit total n (round * conns) conns es controls frames moves t begun room some fits few count)

-- ---- a move
move_regroup : (f g a b : List ℕ)
    → (((((f ++ 32 ∷ []) ++ a) ++ (10 ∷ (g ++ 32 ∷ []))) ++ a) ++ 32 ∷ []) ++ b ++ 10 ∷ []
    ≡ ((f ++ 32 ∷ a) ++ 10 ∷ []) ++ ((g ++ 32 ∷ (a ++ 32 ∷ b)) ++ 10 ∷ [])
move_regroup f g a b = simp append_assoc

move_text : (p : ℕ)
    → move_lines p
    ≡ ((codes "tag" ++ 32 ∷ decimal p) ++ 10 ∷ []) ++ ((codes "move" ++ 32 ∷ (decimal p ++ 32 ∷ decimal ((p + 1) % 4))) ++ 10 ∷ [])
unfolding move_lines
move_text p = move_regroup (codes "tag") (codes "move") (decimal p) (decimal ((p + 1) % 4))

four_false : (a b c d : Bool) → a ≡ false → b ≡ false → c ≡ false → d ≡ false → (a || (b || (c || (d || false)))) ≡ false
four_false a b c d e f g h = rw (e, f, g, h) refl

-- all four groups are tagged
tags_are : (line a b c d : ℕ) (es : List Entry) (frames moves : ℕ) (at : List CoreId) (tags : List (Option ℕ)) (begun : Bool) → moves < 1000
    → with_tags line (a ∷ b ∷ c ∷ d ∷ []) (state (written es 0 0 frames moves) (standing at tags) begun)
    ≡ Ok (state (written ((((es ++ Tag (group a) ∷ []) ++ Tag (group b) ∷ []) ++ Tag (group c) ∷ []) ++ Tag (group d) ∷ []) 0 (0 + 1 + 1 + 1 + 1) frames (moves + 1 + 1 + 1 + 1))
    (standing at (slice_set (slice_set (slice_set (slice_set tags a (Some line)) b (Some line)) c (Some line)) d (Some line))) begun)
tags_are line a b c d es frames moves at tags begun few =
    ap (λ (r : Result Progress ScriptKind). r >>= with_tags line (b ∷ c ∷ d ∷ [])) (tag_is line a es 0 frames moves at tags begun (omega arith) (omega arith))
    ∙ ap (λ (r : Result Progress ScriptKind). r >>= with_tags line (c ∷ d ∷ [])) (tag_is line b _ (0 + 1) frames (moves + 1) at _ begun (omega arith) (omega arith))
    ∙ ap (λ (r : Result Progress ScriptKind). r >>= with_tags line (d ∷ [])) (tag_is line c _ (0 + 1 + 1) frames (moves + 1 + 1) at _ begun (omega arith) (omega arith))
    ∙ ap (λ (r : Result Progress ScriptKind). r >>= with_tags line []) (tag_is line d _ (0 + 1 + 1 + 1) frames (moves + 1 + 1 + 1) at _ begun (omega arith) (omega arith))

-- and then all of them move
steps_are : (to a b c d : ℕ) (es : List Entry) (controls frames moves : ℕ) (at : List CoreId) (tags : List (Option ℕ)) (begun : Bool) → moves < 1000 → controls < 100
    → with_steps (core_of to) (a ∷ b ∷ c ∷ d ∷ []) (state (written es 0 controls frames moves) (standing at tags) begun)
    ≡ Ok (state (written ((((es ++ Move (group a) (core to) ∷ []) ++ Move (group b) (core to) ∷ []) ++ Move (group c) (core to) ∷ []) ++ Move (group d) (core to) ∷ []) 0 (controls + 1 + 1 + 1 + 1) frames (moves + 1 + 1 + 1 + 1))
    (standing (slice_set (slice_set (slice_set (slice_set at a (core to)) b (core to)) c (core to)) d (core to))
    (slice_set (slice_set (slice_set (slice_set tags a None) b None) c None) d None)) begun)
steps_are to a b c d es controls frames moves at tags begun few short =
    ap (λ (r : Result Progress ScriptKind). r >>= with_steps (core_of to) (b ∷ c ∷ d ∷ [])) (step_is to a es controls frames moves at tags begun (omega arith) (omega arith))
    ∙ ap (λ (r : Result Progress ScriptKind). r >>= with_steps (core_of to) (c ∷ d ∷ [])) (step_is to b _ (controls + 1) frames (moves + 1) _ _ begun (omega arith) (omega arith))
    ∙ ap (λ (r : Result Progress ScriptKind). r >>= with_steps (core_of to) (d ∷ [])) (step_is to c _ (controls + 1 + 1) frames (moves + 1 + 1) _ _ begun (omega arith) (omega arith))
    ∙ ap (λ (r : Result Progress ScriptKind). r >>= with_steps (core_of to) []) (step_is to d _ (controls + 1 + 1 + 1) frames (moves + 1 + 1 + 1) _ _ begun (omega arith) (omega arith))

-- the tests of a line `tag` and of a line `move` in version 1
tag_ran : (own : List Bool) (line place : ℕ) (es : List Entry) (frames moves : ℕ) (at : List CoreId) (tags : List (Option ℕ)) (q : Progress)
    → list_any (is_tagged (standing at tags)) (groups_from place 4) ≡ false
    → with_tags line (groups_from place 4) (state (written es 0 0 frames moves) (standing at tags) true) ≡ Ok q
    → run own line (commands.Tag place) (state (written es 0 0 frames moves) (standing at tags) true) ≡ Ok q
unfolding run tag_run
tag_ran own line place es frames moves at tags q free is = rw free is

move_ran : (own : List Bool) (line place to : ℕ) (es : List Entry) (controls frames moves : ℕ) (at : List CoreId) (tags : List (Option ℕ)) (q : Progress)
    → is_live_core to (standing at tags) ≡ true
    → list_any (is_untagged (standing at tags)) (groups_from place 4) ≡ false
    → list_any (is_on (standing at tags) to) (groups_from place 4) ≡ false
    → with_steps (core_of to) (groups_from place 4) (state (written es 0 controls frames moves) (standing at tags) true) ≡ Ok q
    → run own line (commands.Move place to) (state (written es 0 controls frames moves) (standing at tags) true) ≡ Ok q
unfolding run move_run
move_ran own line place to es controls frames moves at tags q live tagged elsewhere is = rw (live, tagged, elsewhere) is

live_one : (to : ℕ) (at : List CoreId) (tags : List (Option ℕ)) → to < 4 → is_live_core to (standing at tags) ≡ true
live_one zero at tags h = refl
live_one (suc zero) at tags h = refl
live_one (suc (suc zero)) at tags h = refl
live_one (suc (suc (suc zero))) at tags h = refl
live_one (suc (suc (suc (suc to)))) at tags h = absurd (omega arith)

no_mark : (o : Option (Option ℕ)) → o ≡ Some None → is_tag o ≡ false
no_mark o h = rw h refl

marked : (o : Option (Option ℕ)) (line : ℕ) → o ≡ Some (Some line) → not (is_tag o) ≡ false
marked o line h = rw h refl

off_core : (o : Option CoreId) (from to : ℕ) → o ≡ Some (core from) → from ≢ to → is_core to o ≡ false
off_core o from to h other = rw h (ne_eqb from to other)

apart_classes : (number k j : ℕ) → k < 4 → j < k → class_behind number j ≢ class_behind number k
unfolding class_behind
apart_classes number k j h less = λ e. omega (arith, e)

class_below : (number k : ℕ) → class_behind number k < 128
unfolding class_behind
class_below number k = omega arith

move_entries_are : (es : List Entry) (a b c d e f g h : Entry)
    → (((((((es ++ a ∷ []) ++ b ∷ []) ++ c ∷ []) ++ d ∷ []) ++ e ∷ []) ++ f ∷ []) ++ g ∷ []) ++ h ∷ [] ≡ es ++ (a ∷ b ∷ c ∷ d ∷ e ∷ f ∷ g ∷ h ∷ [])
move_entries_are es a b c d e f g h = simp append_assoc

-- a move of a class that has not moved yet
pub record IsMoved (limit : ℕ) (own : List Bool) (number k n : ℕ) (es : List Entry) (frames moves : ℕ) (at : List CoreId) (tags : List (Option ℕ)) : Type 0 where
  pub new_at : List CoreId
  pub new_tags : List (Option ℕ)
  pub stands : Stands number (suc k) new_at new_tags
  pub reaches : Reaches limit own (move_lines (class_behind number k)) n (n + 1 + 1) (state (written es 0 0 frames moves) (standing at tags) true)
      (state (written (es ++ move_entries (class_behind number k)) 0 8 frames (moves + 1 + 1 + 1 + 1 + 1 + 1 + 1 + 1)) (standing new_at new_tags) true)

class_moves : (limit : ℕ) (own : List Bool) (number k n p : ℕ) (es : List Entry) (frames moves : ℕ) (at : List CoreId) (tags : List (Option ℕ))
    → p ≡ class_behind number k → p < 128 → k < 4 → n + 1 < limit → moves < 500 → Stands number k at tags
    → Reaches limit own (((codes "tag" ++ 32 ∷ decimal p) ++ 10 ∷ []) ++ ((codes "move" ++ 32 ∷ (decimal p ++ 32 ∷ decimal ((p + 1) % 4))) ++ 10 ∷ []))
    n (n + 1 + 1) (state (written es 0 0 frames moves) (standing at tags) true)
    (state (written (es ++ move_entries p) 0 8 frames (moves + 1 + 1 + 1 + 1 + 1 + 1 + 1 + 1))
    (standing (set_class at p (core ((p + 1) % 4))) (set_class (set_class tags p (Some (n + 1))) p None)) true)
class_moves limit own number k n p es frames moves at tags is small few room count s =
    let to = (p + 1) % 4 in
    let line = n + 1 in
    let marks = set_class tags p (Some line) in
    let start = state (written es 0 0 frames moves) (standing at tags) true in
    let es4 = (((es ++ Tag (group p) ∷ []) ++ Tag (group (p + 128)) ∷ []) ++ Tag (group (p + 128 + 128)) ∷ []) ++ Tag (group (p + 128 + 128 + 128)) ∷ [] in
    let middle = state (written es4 0 4 frames (moves + 1 + 1 + 1 + 1)) (standing at marks) true in
    let free : list_any (is_tagged (standing at tags)) (groups_from p 4) ≡ false =
    four_false _ _ _ _ (no_mark _ (s.untagged p (omega arith))) (no_mark _ (s.untagged (p + 128) (omega arith)))
    (no_mark _ (s.untagged (p + 128 + 128) (omega arith))) (no_mark _ (s.untagged (p + 128 + 128 + 128) (omega arith))) in
    let set = class_set tags p (Some line) small s.marks in
    let tagged : list_any (is_untagged (standing at marks)) (groups_from p 4) ≡ false =
    four_false _ _ _ _ (marked _ line set.first) (marked _ line set.second) (marked _ line set.third) (marked _ line set.fourth) in
    let apart : (g : ℕ) → g % 128 ≡ p → (j : ℕ) → j < k → class_behind number j ≢ g % 128 =
    λ g same j less e. apart_classes number k j few less (e ∙ same ∙ is) in
    let off : (g : ℕ) → g < 512 → g % 128 ≡ p → is_core to (slice_get at g) ≡ false =
    λ g below same. off_core (slice_get at g) (g % 128 % 4) to (s.home g below (apart g same)) (λ e. omega (arith, e, same)) in
    let elsewhere : list_any (is_on (standing at marks) to) (groups_from p 4) ≡ false =
    four_false _ _ _ _ (off p (omega arith) (omega arith)) (off (p + 128) (omega arith) (omega arith))
    (off (p + 128 + 128) (omega arith) (omega arith)) (off (p + 128 + 128 + 128) (omega arith) (omega arith)) in
    let first_line = tag_line p (omega arith) in
    let second_line = move_line p to (omega arith) (omega arith) in
    let first : line_run own line (codes "tag" ++ 32 ∷ decimal p) start ≡ Ok middle =
    line_runs own line _ _ start (commands.Tag p) first_line (tag_says true p small)
    ∙ tag_ran own line p es frames moves at tags middle free
    (tags_are line p (p + 128) (p + 128 + 128) (p + 128 + 128 + 128) es frames moves at tags true (omega arith)) in
    let last = state (written (es ++ move_entries p) 0 8 frames (moves + 1 + 1 + 1 + 1 + 1 + 1 + 1 + 1))
    (standing (set_class at p (core to)) (set_class marks p None)) true in
    let second : line_run own (n + 1 + 1) (codes "move" ++ 32 ∷ (decimal p ++ 32 ∷ decimal to)) middle ≡ Ok last =
    line_runs own (n + 1 + 1) _ _ middle (commands.Move p to) second_line (move_says true p to small (omega arith))
    ∙ move_ran own (n + 1 + 1) p to es4 4 frames (moves + 1 + 1 + 1 + 1) at marks _ (live_one to at marks (omega arith)) tagged elsewhere
    (steps_are to p (p + 128) (p + 128 + 128) (p + 128 + 128 + 128) es4 4 frames (moves + 1 + 1 + 1 + 1) at marks true (omega arith) (omega arith))
    ∙ ap (λ entries. Ok (state (written entries 0 8 frames (moves + 1 + 1 + 1 + 1 + 1 + 1 + 1 + 1))
    (standing (set_class at p (core to)) (set_class marks p None)) true))
    (move_entries_are es (Tag (group p)) (Tag (group (p + 128))) (Tag (group (p + 128 + 128))) (Tag (group (p + 128 + 128 + 128)))
    (Move (group p) (core to)) (Move (group (p + 128)) (core to)) (Move (group (p + 128 + 128)) (core to)) (Move (group (p + 128 + 128 + 128)) (core to))) in
    reaches_then limit own _ _ n (n + 1) (n + 1 + 1) start middle last
    (line_reaches limit own n start middle _ (omega arith) first_line.printable first)
    (line_reaches limit own (n + 1) middle last _ room second_line.printable second)

pub moves_reach : (limit : ℕ) (own : List Bool) (number k n : ℕ) (es : List Entry) (frames moves : ℕ) (at : List CoreId) (tags : List (Option ℕ))
    → k < 4 → n + 1 < limit → moves < 500 → Stands number k at tags → IsMoved limit own number k n es frames moves at tags
moves_reach limit own number k n es frames moves at tags few room count s =
    let p = class_behind number k in
    record {
      new_at = set_class at p (core ((p + 1) % 4));
      new_tags = set_class (set_class tags p (Some (n + 1))) p None;
      stands = moved_stands number k p (n + 1) (core ((p + 1) % 4)) at tags refl (class_below number k) s;
      reaches = subst (λ text. Reaches limit own text n (n + 1 + 1) (state (written es 0 0 frames moves) (standing at tags) true)
          (state (written (es ++ move_entries p) 0 8 frames (moves + 1 + 1 + 1 + 1 + 1 + 1 + 1 + 1))
          (standing (set_class at p (core ((p + 1) % 4))) (set_class (set_class tags p (Some (n + 1))) p None)) true))
          (sym (move_text p))
          (class_moves limit own number k n p es frames moves at tags refl (class_below number k) few room count s);
    }

-- ---- a round of data, and the move behind it
pub record IsRound (limit total number k n conns : ℕ) (es : List Entry) (controls frames moves : ℕ) (at : List CoreId) (tags : List (Option ℕ)) : Type 0 where
  pub new_at : List CoreId
  pub new_tags : List (Option ℕ)
  pub stands : Stands number (suc k) new_at new_tags
  pub reaches : Reaches limit (none_own total) (round_lines conns (2 + k) ++ move_lines (class_behind number k)) n (n + 1 + 1 + 1 + 1)
      (state (written es 0 controls frames moves) (standing at tags) true)
      (state (written ((es ++ round_entries conns (2 + k)) ++ move_entries (class_behind number k)) 0 8 (frames + conns) (moves + 1 + 1 + 1 + 1 + 1 + 1 + 1 + 1))
      (standing new_at new_tags) true)

data_reaches : (limit total number k n conns : ℕ) (es : List Entry) (controls frames moves : ℕ) (at : List CoreId) (tags : List (Option ℕ))
    → k < 4 → n + 3 < limit → moves < 500 → 1 ≤ conns → (2 + k) * conns + conns ≤ total → total < 10000 → frames + conns ≤ 262144
    → Stands number k at tags → IsRound limit total number k n conns es controls frames moves at tags
data_reaches limit total number k n conns es controls frames moves at tags few room count some fits small frame_count s =
    let m = moves_reach limit (none_own total) number k (n + 1 + 1) (es ++ round_entries conns (2 + k)) (frames + conns) moves at tags few (omega arith) count s in
    record {
      new_at = m.new_at;
      new_tags = m.new_tags;
      stands = m.stands;
      reaches = reaches_then limit (none_own total) _ _ n (n + 1 + 1) (n + 1 + 1 + 1 + 1) _ _ _
          (round_reaches limit total n conns (2 + k) es controls frames moves (standing at tags) true (omega arith) some fits small frame_count)
          m.reaches;
    }

-- ---- the whole
finish_is : (number k : ℕ) (es : List Entry) (controls frames moves : ℕ) (at : List CoreId) (tags : List (Option ℕ)) → Stands number k at tags
    → finish (state (written es 0 controls frames moves) (standing at tags) true) ≡ Ok (es ++ Settle ∷ [])
unfolding finish settled
finish_is number k es controls frames moves at tags s =
    ap (λ tag. entries_unless tag (es ++ Settle ∷ [])) (none_left number k at tags s)

opening_is : opening 256 4 4 ≡ state (written [] 0 0 0 0) (standing (opening_cores 4 512) (no_tags 512)) false
unfolding opening start opening_table
opening_is = refl

wire_is : (own : List Bool) (text : List ℕ) (n : ℕ) (q : Progress) (es : List Entry)
    → Reaches 65536 own text 0 n (opening 256 4 4) q → finish q ≡ Ok es → wire_of 256 4 4 own text ≡ Ok es
unfolding wire_of
wire_is own text n q es r done =
    ap (λ t. lines_run 65536 own 0 (opening 256 4 4) (lines_of t) >>= finish) (sym (append-nil text))
    ∙ ap (λ p. p >>= finish) (r.each [])
    ∙ done

pub script_read : ScriptIsRead
unfolding script_text wire_made
script_read number conns some few =
    let total = 7 * conns in
    let own = none_own total in
    let at = opening_cores 4 512 in
    let tags = no_tags 512 in
    let begin = state (written [] 0 0 0 0) (standing at tags) false in
    let r0 = round_reaches 65536 total 0 conns 0 [] 0 0 0 (standing at tags) false (omega arith) some (omega arith) (omega arith) (omega arith) in
    let e0 = round_entries conns 0 in
    let r1 = round_reaches 65536 total 2 conns 1 e0 0 (0 + conns) 0 (standing at tags) true (omega arith) some (omega arith) (omega arith) (omega arith) in
    let e1 = e0 ++ round_entries conns 1 in
    let d0 = data_reaches 65536 total number 0 4 conns e1 0 (0 + conns + conns) 0 at tags (omega arith) (omega arith) (omega arith) some (omega arith) (omega arith) (omega arith) (opening_stands number) in
    let e2 = (e1 ++ round_entries conns 2) ++ move_entries (class_behind number 0) in
    let d1 = data_reaches 65536 total number 1 8 conns e2 8 (0 + conns + conns + conns) 8 d0.new_at d0.new_tags (omega arith) (omega arith) (omega arith) some (omega arith) (omega arith) (omega arith) d0.stands in
    let e3 = (e2 ++ round_entries conns 3) ++ move_entries (class_behind number 1) in
    let d2 = data_reaches 65536 total number 2 12 conns e3 8 (0 + conns + conns + conns + conns) 16 d1.new_at d1.new_tags (omega arith) (omega arith) (omega arith) some (omega arith) (omega arith) (omega arith) d1.stands in
    let e4 = (e3 ++ round_entries conns 4) ++ move_entries (class_behind number 2) in
    let d3 = data_reaches 65536 total number 3 16 conns e4 8 (0 + conns + conns + conns + conns + conns) 24 d2.new_at d2.new_tags (omega arith) (omega arith) (omega arith) some (omega arith) (omega arith) (omega arith) d2.stands in
    let e5 = (e4 ++ round_entries conns 5) ++ move_entries (class_behind number 3) in
    let r6 = round_reaches 65536 total 20 conns 6 e5 8 (0 + conns + conns + conns + conns + conns + conns) 32 (standing d3.new_at d3.new_tags) true (omega arith) some (omega arith) (omega arith) (omega arith) in
    let t1 = round_lines conns 0 ++ round_lines conns 1 in
    let m0 = round_lines conns 2 ++ move_lines (class_behind number 0) in
    let m1 = round_lines conns 3 ++ move_lines (class_behind number 1) in
    let m2 = round_lines conns 4 ++ move_lines (class_behind number 2) in
    let m3 = round_lines conns 5 ++ move_lines (class_behind number 3) in
    let s1 = reaches_then 65536 own (round_lines conns 0) (round_lines conns 1) 0 2 4 _ _ _ r0 r1 in
    let s2 = reaches_then 65536 own t1 m0 0 4 8 _ _ _ s1 d0.reaches in
    let s3 = reaches_then 65536 own (t1 ++ m0) m1 0 8 12 _ _ _ s2 d1.reaches in
    let s4 = reaches_then 65536 own (t1 ++ m0 ++ m1) m2 0 12 16 _ _ _ s3 d2.reaches in
    let s5 = reaches_then 65536 own (t1 ++ m0 ++ m1 ++ m2) m3 0 16 20 _ _ _ s4 d3.reaches in
    let s6 = reaches_then 65536 own (t1 ++ m0 ++ m1 ++ m2 ++ m3) (round_lines conns 6) 0 20 22 _ _ _ s5 r6 in
    let last = state (written (e5 ++ round_entries conns 6) 0 0 (0 + conns + conns + conns + conns + conns + conns + conns) 32) (standing d3.new_at d3.new_tags) true in
    wire_is own (script_text number conns) 22 last _ (subst (λ p. Reaches 65536 own (script_text number conns) 0 22 p last) (sym opening_is) s6)
    (finish_is number 4 (e5 ++ round_entries conns 6) 0 (0 + conns + conns + conns + conns + conns + conns + conns) 32 d3.new_at d3.new_tags d3.stands)
