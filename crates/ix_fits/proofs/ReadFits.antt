-- A report that fits in some cycles fits in those that its lines tell.
use Rattle.std.proofs.Common.{◌≡◌, ℕ, zero, suc, ◌+◌, ◌<◌, refl, sym, ap, ◌∙◌, subst, Bool, List, [], ◌∷◌, ◌++◌, map, append_assoc, arith}
use Rattle.std.specs.Prelude.{◌&&◌, ◌==◌, sum_by}
use Rattle.std.specs.List.{AllByRecursion, range_with_len}
use Rattle.std.proofs.lemmas.List.Sums.{sum_by-cons}
use Rattle.ix_appdef.specs.Answers.{NothingFirst}
use Rattle.ix_base.specs.declared.id.TheConstants.{FLOW_GROUPS}
use Rattle.ix_base.specs.declared.id.WireNo.{WireNo}
use Rattle.ix_groupdef.specs.declared.types.GroupRecord.{GroupRecord}
use Rattle.ix_groupdef.specs.Group.{Group, Cycle, Connect}
use Rattle.ix_groupdef.specs.Laws.{AreRuns}
use Rattle.ix_groupdef.specs.Owners.{owners_of, sends_parts}
use Rattle.ix_groupdef.specs.Record.{record_of}
use Rattle.ix_groupdef.specs.Rest.{AllRest, ClosedStays}
use Rattle.ix_groupdef.specs.Setting.{Setting}
use Rattle.ix_lines.specs.declared.types.EntryLine.{EntryLine}
use Rattle.ix_lines.specs.declared.types.EntryLine.TheVariants as lines
use Rattle.ix_lines.specs.declared.types.HomeLine.{HomeLine}
use Rattle.ix_lines.specs.declared.types.SettleLine.{SettleLine}
use Rattle.ix_playdef.specs.Own.{local_of}
use Rattle.ix_playdef.specs.Setting.{application_of, setting_of_play}
use Rattle.ix_reta.specs.Table.{opening_core}
use Rattle.ix_fits.specs.Connects.{asked_in}
use Rattle.ix_fits.specs.Cutting.{dues, first_stage, reach}
use Rattle.ix_fits.specs.Fits.{dues_of, left_by}
use Rattle.ix_fits.specs.Journals.{AreConnLines, AreStrayLines, are_journals, conns_of, strays_of}
use Rattle.ix_fits.specs.Owners.{Play, all_groups, all_settles, all_stay, app_at, are_apart, are_homes, are_settles, buffers_of, desk_at, group_after, held_at, home_of, is_home, is_settle_of, out_after, out_from, owned_by, owners_in, queue_at, waiting}
use Rattle.ix_fits.specs.Readings.{ReadingsFit, cycles_told}
use Rattle.ix_fits.specs.Replies.{AreReplies, NamesItsReplies}
use Rattle.ix_fits.proofs.ReadEdges.{Edge, all-map, edge-at, edge-zero, rise-dues}
use Rattle.ix_fits.proofs.ReadGroups.{ReadsWell, reads-well}

-- ## All groups
abbrev IsGroup : ℕ → Type 0
IsGroup g = g < FLOW_GROUPS

range-below : (a n m : ℕ) → a + n ≡ m → AllByRecursion (λ (g : ℕ). g < m) (range_with_len a n)
range-below a zero m e = tt
range-below a (suc n) m e = (omega (arith, e), range-below (a + 1) n m (omega (arith, e)))

groups-below : AllByRecursion IsGroup all_groups
unfolding all_groups
groups-below = range-below 0 FLOW_GROUPS FLOW_GROUPS refl

sum-same : (f h : ℕ → ℕ) (gs : List ℕ) → AllByRecursion (λ (g : ℕ). f g ≡ h g) gs → sum_by f gs ≡ sum_by h gs
sum-same f h [] p = refl
sum-same f h (g ∷ gs) p =
    sum_by-cons f g gs ∙ ap (λ (n : ℕ). n + sum_by f gs) p.0 ∙ ap (λ (n : ℕ). h g + n) (sum-same f h gs p.1) ∙ sym (sum_by-cons h g gs)

map-same : (f h : ℕ → GroupRecord) (gs : List ℕ) → AllByRecursion (λ (g : ℕ). f g ≡ h g) gs → map f gs ≡ map h gs
map-same f h [] p = refl
map-same f h (g ∷ gs) p = ap (λ (r : GroupRecord). r ∷ map f gs) p.0 ∙ ap (λ (rs : List GroupRecord). h g ∷ rs) (map-same f h gs p.1)

-- ## Settles
abbrev play_with : Setting → Bool → List EntryLine → (ℕ → List Connect) → (ℕ → List Cycle) → Play
play_with env whole entries asked cycles = record { env = env; whole = whole; entries = entries; asked = asked; cycles = cycles }

-- in both cycles each group is the same once these entries are carried out
record SameAt (env : Setting) (whole : Bool) (entries : List EntryLine) (asked : ℕ → List Connect) (a b : ℕ → List Cycle) (done : List EntryLine) : Type 0 where
  group : (g : ℕ) → g < FLOW_GROUPS → group_after (play_with env whole entries asked b) done g ≡ group_after (play_with env whole entries asked a) done g

out-same : (env : Setting) (whole : Bool) (entries : List EntryLine) (asked : ℕ → List Connect) (a b : ℕ → List Cycle) (done : List EntryLine) → SameAt env whole entries asked a b done
    → (gs : List ℕ) → AllByRecursion IsGroup gs → out_from (play_with env whole entries asked b) done gs ≡ out_from (play_with env whole entries asked a) done gs
out-same env whole entries asked a b done same [] p = refl
out-same env whole entries asked a b done same (g ∷ gs) p =
    ap (λ (h : Group). waiting done g ++ owned_by whole h.lives ++ out_from (play_with env whole entries asked b) done gs) (same.group g p.0)
    ∙ ap (λ (ws : List WireNo). waiting done g ++ owned_by whole (group_after (play_with env whole entries asked a) done g).lives ++ ws) (out-same env whole entries asked a b done same gs p.1)

all-out-same : (env : Setting) (whole : Bool) (entries : List EntryLine) (asked : ℕ → List Connect) (a b : ℕ → List Cycle) (done : List EntryLine) → SameAt env whole entries asked a b done
    → out_after (play_with env whole entries asked b) done ≡ out_after (play_with env whole entries asked a) done
all-out-same env whole entries asked a b done same = out-same env whole entries asked a b done same all_groups groups-below

held-same : (env : Setting) (whole : Bool) (entries : List EntryLine) (asked : ℕ → List Connect) (a b : ℕ → List Cycle) (done : List EntryLine) (core : ℕ) → SameAt env whole entries asked a b done
    → held_at (play_with env whole entries asked b) done core ≡ held_at (play_with env whole entries asked a) done core
held-same env whole entries asked a b done core same =
    sum-same (λ g. (owners_in (play_with env whole entries asked b) done core g).held) (λ g. (owners_in (play_with env whole entries asked a) done core g).held) all_groups
    (all-map IsGroup (λ (g : ℕ). (owners_in (play_with env whole entries asked b) done core g).held ≡ (owners_in (play_with env whole entries asked a) done core g).held)
    (λ g lt. ap (λ (h : Group). (owners_of whole (home_of entries) (record { 0 = core }) h).held) (same.group g lt)) all_groups groups-below)

app-same : (env : Setting) (whole : Bool) (entries : List EntryLine) (asked : ℕ → List Connect) (a b : ℕ → List Cycle) (done : List EntryLine) (core : ℕ) → SameAt env whole entries asked a b done
    → app_at (play_with env whole entries asked b) done core ≡ app_at (play_with env whole entries asked a) done core
app-same env whole entries asked a b done core same =
    sum-same (λ g. (owners_in (play_with env whole entries asked b) done core g).app) (λ g. (owners_in (play_with env whole entries asked a) done core g).app) all_groups
    (all-map IsGroup (λ (g : ℕ). (owners_in (play_with env whole entries asked b) done core g).app ≡ (owners_in (play_with env whole entries asked a) done core g).app)
    (λ g lt. ap (λ (h : Group). (owners_of whole (home_of entries) (record { 0 = core }) h).app) (same.group g lt)) all_groups groups-below)

queue-same : (env : Setting) (whole : Bool) (entries : List EntryLine) (asked : ℕ → List Connect) (a b : ℕ → List Cycle) (done : List EntryLine) (core : ℕ) → SameAt env whole entries asked a b done
    → queue_at (play_with env whole entries asked b) done core ≡ queue_at (play_with env whole entries asked a) done core
queue-same env whole entries asked a b done core same =
    sum-same (λ g. (owners_in (play_with env whole entries asked b) done core g).queue) (λ g. (owners_in (play_with env whole entries asked a) done core g).queue) all_groups
    (all-map IsGroup (λ (g : ℕ). (owners_in (play_with env whole entries asked b) done core g).queue ≡ (owners_in (play_with env whole entries asked a) done core g).queue)
    (λ g lt. ap (λ (h : Group). (owners_of whole (home_of entries) (record { 0 = core }) h).queue) (same.group g lt)) all_groups groups-below)

home-same : (env : Setting) (whole : Bool) (entries : List EntryLine) (asked : ℕ → List Connect) (a b : ℕ → List Cycle) (done : List EntryLine) (core : ℕ) (h : HomeLine) → SameAt env whole entries asked a b done
    → is_home (play_with env whole entries asked b) done core h ≡ is_home (play_with env whole entries asked a) done core h
home-same env whole entries asked a b done core h same =
    let p : Play = play_with env whole entries asked a in
    let q : Play = play_with env whole entries asked b in
    ap (λ (n : ℕ). (h.desk == desk_at q done core && h.held == n) && (h.app == app_at q done core && h.queue == queue_at q done core)) (held-same env whole entries asked a b done core same)
    ∙ ap (λ (n : ℕ). (h.desk == desk_at q done core && h.held == held_at p done core) && (h.app == n && h.queue == queue_at q done core)) (app-same env whole entries asked a b done core same)
    ∙ ap (λ (n : ℕ). (h.desk == desk_at q done core && h.held == held_at p done core) && (h.app == app_at p done core && h.queue == n)) (queue-same env whole entries asked a b done core same)

homes-same : (env : Setting) (whole : Bool) (entries : List EntryLine) (asked : ℕ → List Connect) (a b : ℕ → List Cycle) (done : List EntryLine) (core : ℕ) (hs : List HomeLine) → SameAt env whole entries asked a b done
    → are_homes (play_with env whole entries asked b) done core hs ≡ are_homes (play_with env whole entries asked a) done core hs
homes-same env whole entries asked a b done core [] same = refl
homes-same env whole entries asked a b done core (h ∷ hs) same =
    ap (λ (c : Bool). c && are_homes (play_with env whole entries asked b) done (core + 1) hs) (home-same env whole entries asked a b done core h same)
    ∙ ap (λ (c : Bool). is_home (play_with env whole entries asked a) done core h && c) (homes-same env whole entries asked a b done (core + 1) hs same)

settle-same : (env : Setting) (whole : Bool) (entries : List EntryLine) (asked : ℕ → List Connect) (a b : ℕ → List Cycle) (done : List EntryLine) (s : SettleLine) → SameAt env whole entries asked a b done
    → is_settle_of (play_with env whole entries asked b) done s ≡ is_settle_of (play_with env whole entries asked a) done s
settle-same env whole entries asked a b done s same =
    ap (λ (c : Bool). c && are_apart (buffers_of entries (out_after (play_with env whole entries asked b) done))) (homes-same env whole entries asked a b done 0 s.homes same)
    ∙ ap (λ (ws : List WireNo). are_homes (play_with env whole entries asked a) done 0 s.homes && are_apart (buffers_of entries ws)) (all-out-same env whole entries asked a b done same)

-- the same at each settle among the entries
record SameAtSettles (env : Setting) (whole : Bool) (entries : List EntryLine) (asked : ℕ → List Connect) (a b : ℕ → List Cycle) : Type 0 where
  before : SameAt env whole entries asked a b []
  each : (done rest : List EntryLine) → done ++ lines.Settle ∷ rest ≡ entries → SameAt env whole entries asked a b done

settles-same : (env : Setting) (whole : Bool) (entries : List EntryLine) (asked : ℕ → List Connect) (a b : ℕ → List Cycle) → SameAtSettles env whole entries asked a b
    → (before : List WireNo) (between done ls : List EntryLine) (ss : List SettleLine) → done ++ ls ≡ entries
    → are_settles (play_with env whole entries asked b) before between done ls ss ≡ are_settles (play_with env whole entries asked a) before between done ls ss
settles-same env whole entries asked a b same before between done [] ss e = refl
settles-same env whole entries asked a b same before between done (lines.Frame rec at group ring fate ∷ ls) ss e =
    let l : EntryLine = lines.Frame rec at group ring fate in
    settles-same env whole entries asked a b same before (between ++ l ∷ []) (done ++ l ∷ []) ls ss (append_assoc done (l ∷ []) ls ∙ e)
settles-same env whole entries asked a b same before between done (lines.Time t ∷ ls) ss e =
    settles-same env whole entries asked a b same before (between ++ lines.Time t ∷ []) (done ++ lines.Time t ∷ []) ls ss (append_assoc done (lines.Time t ∷ []) ls ∙ e)
settles-same env whole entries asked a b same before between done (lines.Tag group ∷ ls) ss e =
    settles-same env whole entries asked a b same before (between ++ lines.Tag group ∷ []) (done ++ lines.Tag group ∷ []) ls ss (append_assoc done (lines.Tag group ∷ []) ls ∙ e)
settles-same env whole entries asked a b same before between done (lines.Move group to ∷ ls) ss e =
    settles-same env whole entries asked a b same before (between ++ lines.Move group to ∷ []) (done ++ lines.Move group to ∷ []) ls ss (append_assoc done (lines.Move group to ∷ []) ls ∙ e)
settles-same env whole entries asked a b same before between done (lines.Settle ∷ ls) [] e = refl
settles-same env whole entries asked a b same before between done (lines.Settle ∷ ls) (s ∷ ss) e =
    let p : Play = play_with env whole entries asked a in
    let q : Play = play_with env whole entries asked b in
    let here : SameAt env whole entries asked a b done = same.each done ls e in
    let later : List EntryLine = done ++ lines.Settle ∷ [] in
    ap (λ (c : Bool). (c && all_stay q before (out_after q done) between) && are_settles q (out_after q done) [] later ls ss) (settle-same env whole entries asked a b done s here)
    ∙ ap (λ (ws : List WireNo). (is_settle_of p done s && all_stay q before ws between) && are_settles q ws [] later ls ss) (all-out-same env whole entries asked a b done here)
    ∙ ap (λ (c : Bool). (is_settle_of p done s && all_stay q before (out_after p done) between) && c)
    (settles-same env whole entries asked a b same (out_after p done) [] later ls ss (append_assoc done (lines.Settle ∷ []) ls ∙ e))

all-settles-same : (env : Setting) (whole : Bool) (entries : List EntryLine) (asked : ℕ → List Connect) (a b : ℕ → List Cycle) (ss : List SettleLine) → SameAtSettles env whole entries asked a b
    → all_settles (play_with env whole entries asked b) ss ≡ all_settles (play_with env whole entries asked a) ss
all-settles-same env whole entries asked a b [] same = refl
all-settles-same env whole entries asked a b (s ∷ ss) same =
    let p : Play = play_with env whole entries asked a in
    let q : Play = play_with env whole entries asked b in
    ap (λ (c : Bool). c && are_settles q (out_after q []) [] [] entries ss) (settle-same env whole entries asked a b [] s same.before)
    ∙ ap (λ (ws : List WireNo). is_settle_of p [] s && are_settles q ws [] [] entries ss) (all-out-same env whole entries asked a b [] same.before)
    ∙ ap (λ (c : Bool). is_settle_of p [] s && c) (settles-same env whole entries asked a b same (out_after p []) [] [] entries ss refl)

-- ## All points
pub readings-fit : AllRest → ClosedStays → AreRuns → NothingFirst → ReadingsFit
readings-fit rests stays runs first s frames entries r file c fits =
    let env : Setting = setting_of_play s frames in
    let reads : (g : ℕ) → g < FLOW_GROUPS → ReadsWell env (asked_in env s g) s.batch (dues_of s frames r g) (conns_of g r.conns) (c.cycles g) = λ g lt.
    reads-well rests stays runs env (first (application_of s.app s.text)) (asked_in env s g) s.batch (dues_of s frames r g) (conns_of g r.conns) (c.cycles g) r.entries
    (fits.groups.each g lt).cut (rise-dues frames g (opening_core s.live g).0 first_stage 0 r.entries) (fits.groups.each g lt).journals in
    let left : (g : ℕ) → g < FLOW_GROUPS → left_by s frames (cycles_told s frames r) g ≡ left_by s frames c.cycles g = λ g lt. ap (record_of env) (reads g lt).whole in
    let settles : SameAtSettles env (sends_parts (application_of s.app s.text)) r.entries (asked_in env s) c.cycles (cycles_told s frames r) =
    record {
      before = record { group = λ g lt. (reads g lt).up_to (reach g []) (edge-zero (dues_of s frames r g)) };
      each = λ done rest e. record {
        group = λ g lt. (reads g lt).up_to (reach g done) (subst (λ (ls : List EntryLine). Edge (reach g done) (dues frames g (opening_core s.live g).0 ls)) e (edge-at frames g (opening_core s.live g).0 done rest));
      };
    } in
    record {
      card = fits.card;
      owners = record {
        settles = all-settles-same env (sends_parts (application_of s.app s.text)) r.entries (asked_in env s) c.cycles (cycles_told s frames r) r.settles settles ∙ fits.owners.settles;
      };
      groups = record {
        each = λ g lt. record {
          cut = (reads g lt).cut;
          journals = ap (λ (x : GroupRecord). are_journals r.entries x.conns (conns_of g r.conns)) (left g lt) ∙ (fits.groups.each g lt).journals;
          strays = subst (λ (x : GroupRecord). AreStrayLines x.strays (strays_of g r.entries r.strays)) (sym (left g lt)) (fits.groups.each g lt).strays;
        };
        conns = fits.groups.conns;
        strays = fits.groups.strays;
      };
      connections = record {
        each = λ g lt. subst (λ (x : GroupRecord). AreConnLines x.conns (conns_of g r.conns)) (sym (left g lt)) (fits.connections.each g lt);
        connects = fits.connections.connects;
      };
      replies = record {
        order = fits.replies.order;
        replies =
            subst (λ (xs : List GroupRecord). AreReplies c.places (local_of s) xs c.replies)
            (sym (map-same (left_by s frames (cycles_told s frames r)) (left_by s frames c.cycles) all_groups
            (all-map IsGroup (λ (g : ℕ). left_by s frames (cycles_told s frames r) g ≡ left_by s frames c.cycles g) left all_groups groups-below)))
            fits.replies.replies;
        file_is = fits.replies.file_is;
        named = λ g lt. subst (λ (x : GroupRecord). NamesItsReplies c.places (local_of s) c.replies g x (strays_of g r.entries r.strays) (conns_of g r.conns)) (sym (left g lt)) (fits.replies.named g lt);
        once = fits.replies.once;
        count = fits.replies.count;
      };
    }
