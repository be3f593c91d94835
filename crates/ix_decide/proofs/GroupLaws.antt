-- What groups leave of the cycles that are read, and the points that are decided of them.
use Rattle.std.proofs.Common.{◌≡◌, ℕ, ◌<◌, ◌≤◌, refl, sym, ap, ◌∙◌, subst, Bool, true, false, List, arith}
use Rattle.std.specs.Prelude.{◌&&◌, filter}
use Rattle.std.specs.Bool.{Decides}
use Rattle.std.specs.List.{AllByRecursion, list_all}
use Rattle.std.proofs.lemmas.Bool.{and_from, and_parts, both_ways}
use Rattle.ix_base.specs.declared.id.TheConstants.{FLOW_GROUPS}
use Rattle.ix_conf.specs.Settings.{Settings}
use Rattle.ix_groupdef.specs.declared.types.GroupRecord.{GroupRecord}
use Rattle.ix_groupdef.specs.Group.{Connect, Cycle, Group, run}
use Rattle.ix_groupdef.specs.Record.{record_of}
use Rattle.ix_groupdef.specs.Setting.{Setting}
use Rattle.ix_lines.specs.declared.types.ConnLine.{ConnLine}
use Rattle.ix_lines.specs.declared.types.ConnectLine.{ConnectLine}
use Rattle.ix_lines.specs.declared.types.EntryLine.{EntryLine}
use Rattle.ix_lines.specs.declared.types.StrayLine.{StrayLine}
use Rattle.ix_playdef.specs.Connects.{is_asked_in}
use Rattle.ix_playdef.specs.Setting.{setting_of_play}
use Rattle.ix_trace.specs.declared.sheet.Sheet.{Sheet}
use Rattle.ix_fits.specs.Connects.{answers_of, asked_in, asked_of}
use Rattle.ix_fits.specs.Cutting.{Due, IsCutting, reach}
use Rattle.ix_fits.specs.Fits.{ConnectionsFit, GroupFits, GroupsFit, dues_of, left_by, play_of}
use Rattle.ix_fits.specs.Journals.{AreConnLines, AreStrayLines, are_journals, conns_of, is_stray_line, strays_of}
use Rattle.ix_fits.specs.Owners.{below, group_after}
use Rattle.ix_fits.specs.Read.{cutting_read}
use Rattle.ix_fits.specs.Readings.{cycles_told}

-- ## What a group leaves
run-is : (s : Settings) (frames : List (List ℕ)) (g : ℕ) (env : Setting) (asked : List Connect) (cs : List Cycle) → env ≡ setting_of_play s frames → asked ≡ asked_of env s
    → run env (filter (is_asked_in env.local.ip g) asked) cs ≡ run (setting_of_play s frames) (asked_in (setting_of_play s frames) s g) cs
run-is s frames g env asked cs setting =
    subst
    (λ (e : Setting). asked ≡ asked_of e s → run e (filter (is_asked_in e.local.ip g) asked) cs ≡ run (setting_of_play s frames) (asked_in (setting_of_play s frames) s g) cs)
    (sym setting)
    (λ (a : asked ≡ asked_of (setting_of_play s frames) s). ap (λ (xs : List Connect). run (setting_of_play s frames) (filter (is_asked_in s.ip g) xs) cs) a)

pub left-is : (s : Settings) (frames : List (List ℕ)) (cycles : ℕ → List Cycle) (g : ℕ) (env : Setting) (asked : List Connect) (cs : List Cycle) (left : GroupRecord)
    → env ≡ setting_of_play s frames → asked ≡ asked_of env s → cs ≡ cycles g → left ≡ record_of env (run env (filter (is_asked_in env.local.ip g) asked) cs)
    → left ≡ left_by s frames cycles g
left-is s frames cycles g env asked cs left setting made read is =
    is
    ∙ ap (λ (x : Group). record_of env x) (run-is s frames g env asked cs setting made)
    ∙ ap (λ (e : Setting). record_of e (run (setting_of_play s frames) (asked_in (setting_of_play s frames) s g) cs)) setting
    ∙ ap (λ (ks : List Cycle). record_of (setting_of_play s frames) (run (setting_of_play s frames) (asked_in (setting_of_play s frames) s g) ks)) read

pub after-is : (s : Settings) (frames : List (List ℕ)) (r : Sheet) (cycles : ℕ → List Cycle) (g n : ℕ) (done : List EntryLine) (env : Setting) (asked : List Connect) (cs ks : List Cycle) (plain : Group)
    → env ≡ setting_of_play s frames → asked ≡ asked_of env s → n ≡ reach g done → cs ≡ cycles g → ks ≡ below n cs
    → plain ≡ run env (filter (is_asked_in env.local.ip g) asked) ks
    → plain ≡ group_after (play_of s frames r cycles) done g
after-is s frames r cycles g n done env asked cs ks plain setting made at read some is =
    is
    ∙ run-is s frames g env asked ks setting made
    ∙ ap (λ (xs : List Cycle). run (setting_of_play s frames) (asked_in (setting_of_play s frames) s g) xs) (some ∙ ap (λ (m : ℕ). below m cs) at ∙ ap (below (reach g done)) read)

pub ruleset for_after = (after-is)

pub ruleset for_left = (left-is)

-- ## One group
pub group-decided : (s : Settings) (frames : List (List ℕ)) (r : Sheet) (cycles : ℕ → List Cycle) (g : ℕ) (a b c : Bool)
    → Decides a (IsCutting s.batch (dues_of s frames r g) (cycles g)) → b ≡ are_journals r.entries (left_by s frames cycles g).conns (conns_of g r.conns)
    → Decides c (AreStrayLines (left_by s frames cycles g).strays (strays_of g r.entries r.strays)) → Decides ((a && b) && c) (GroupFits s frames r cycles g)
group-decided s frames r cycles g a b c cut printed left_over = (to, from)
  where
    to : ((a && b) && c) ≡ true → GroupFits s frames r cycles g
    to e =
        let outer = and_parts (a && b) c e in
        let inner = and_parts a b outer.0 in
        record { cut = cut.0 inner.0; journals = sym printed ∙ inner.1; strays = left_over.0 outer.1 }

    from : GroupFits s frames r cycles g → ((a && b) && c) ≡ true
    from f = and_from (a && b) c (and_from a b (cut.1 f.cut) (printed ∙ f.journals)) (left_over.1 f.strays)

-- what is read is a cutting
pub cut-decided : (s : Settings) (frames : List (List ℕ)) (r : Sheet) (g : ℕ) (es : List Due) (cs : List ConnLine) (a : Bool) → es ≡ dues_of s frames r g → cs ≡ conns_of g r.conns
    → Decides a (IsCutting s.batch es (cutting_read cs es)) → Decides a (IsCutting s.batch (dues_of s frames r g) (cycles_told s frames r g))
cut-decided s frames r g es cs a entries conns d =
    subst (λ (xs : List Due). Decides a (IsCutting s.batch xs (cutting_read (conns_of g r.conns) xs))) entries
    (subst (λ (ks : List ConnLine). Decides a (IsCutting s.batch es (cutting_read ks es))) conns d)

pub ruleset for_cut = (cut-decided)

-- from what was read of it
pub group-from : (s : Settings) (frames : List (List ℕ)) (r : Sheet) (g : ℕ) (es : List Due) (cs : List ConnLine) (left : GroupRecord) (own : List StrayLine) (a b c : Bool)
    → es ≡ dues_of s frames r g → cs ≡ conns_of g r.conns → left ≡ left_by s frames (cycles_told s frames r) g → own ≡ strays_of g r.entries r.strays
    → Decides a (IsCutting s.batch es (cutting_read cs es)) → b ≡ are_journals r.entries left.conns (conns_of g r.conns) → Decides c (AreStrayLines left.strays own)
    → Decides ((a && b) && c) (GroupFits s frames r (cycles_told s frames r) g)
group-from s frames r g es cs left own a b c entries conns left_is strays cut printed left_over =
    group-decided s frames r (cycles_told s frames r) g a b c
    (cut-decided s frames r g es cs a entries conns cut)
    (printed ∙ ap (λ (x : GroupRecord). are_journals r.entries x.conns (conns_of g r.conns)) left_is)
    (subst (λ (x : GroupRecord). Decides c (AreStrayLines x.strays (strays_of g r.entries r.strays))) left_is
    (subst (λ (ls : List StrayLine). Decides c (AreStrayLines left.strays ls)) strays left_over))

-- the connections of a group
pub conns-from : (s : Settings) (frames : List (List ℕ)) (r : Sheet) (g : ℕ) (cs : List ConnLine) (left : GroupRecord) (a : Bool) → cs ≡ conns_of g r.conns
    → left ≡ left_by s frames (cycles_told s frames r) g → Decides a (AreConnLines left.conns cs)
    → Decides a (AreConnLines (left_by s frames (cycles_told s frames r) g).conns (conns_of g r.conns))
conns-from s frames r g cs left a conns left_is d =
    subst (λ (x : GroupRecord). Decides a (AreConnLines x.conns (conns_of g r.conns))) left_is
    (subst (λ (ls : List ConnLine). Decides a (AreConnLines left.conns ls)) conns d)

-- ## All groups
pub below-fails : (P : ℕ → Type 0) (i : ℕ) (t : Bool) → i < 512 → Decides t (P i) → t ≡ false → Decides false ((g : ℕ) → g < 512 → P g)
below-fails P i t lt decides fails = (λ e. absurd (cc), λ all. absurd (both_ways t fails (decides.1 (all i lt))))

pub below-holds : (P : ℕ → Type 0) (i : ℕ) → 512 ≤ i → ((g : ℕ) → g < i → P g) → Decides true ((g : ℕ) → g < 512 → P g)
below-holds P i le all = (λ e g lt. all g (omega (arith, le, lt)), λ _. refl)

pub groups-decided : (s : Settings) (frames : List (List ℕ)) (r : Sheet) (cycles : ℕ → List Cycle) (a b c : Bool)
    → Decides a ((g : ℕ) → g < 512 → GroupFits s frames r cycles g) → Decides b (AllByRecursion (λ (l : ConnLine). l.group.0 < FLOW_GROUPS) r.conns) → c ≡ list_all (is_stray_line r.entries) r.strays
    → Decides ((a && b) && c) (GroupsFit s frames r cycles)
groups-decided s frames r cycles a b c each conns strays = (to, from)
  where
    to : ((a && b) && c) ≡ true → GroupsFit s frames r cycles
    to e =
        let outer = and_parts (a && b) c e in
        let inner = and_parts a b outer.0 in
        record { each = each.0 inner.0; conns = conns.0 inner.1; strays = sym strays ∙ outer.1 }

    from : GroupsFit s frames r cycles → ((a && b) && c) ≡ true
    from f = and_from (a && b) c (and_from a b (each.1 f.each) (conns.1 f.conns)) (strays ∙ f.strays)

pub connections-decided : (s : Settings) (frames : List (List ℕ)) (r : Sheet) (cycles : ℕ → List Cycle) (env : Setting) (answers : List ConnectLine) (a b : Bool)
    → env ≡ setting_of_play s frames → answers ≡ answers_of env s
    → Decides a ((g : ℕ) → g < 512 → AreConnLines (left_by s frames cycles g).conns (conns_of g r.conns)) → Decides b (r.connects ≡ answers)
    → Decides (a && b) (ConnectionsFit s frames r cycles)
connections-decided s frames r cycles env answers a b setting told each same = (to, from)
  where
    answers_are : answers ≡ answers_of (setting_of_play s frames) s
    answers_are = told ∙ ap (λ (e : Setting). answers_of e s) setting

    to : (a && b) ≡ true → ConnectionsFit s frames r cycles
    to e =
        let parts = and_parts a b e in
        record { each = each.0 parts.0; connects = same.0 parts.1 ∙ answers_are }

    from : ConnectionsFit s frames r cycles → (a && b) ≡ true
    from f = and_from a b (each.1 f.each) (same.1 (f.connects ∙ sym answers_are))
