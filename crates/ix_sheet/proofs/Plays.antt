-- What a play leaves can be reported.
use Rattle.std.proofs.Common.{◌≡◌, ℕ, suc, ◌+◌, ◌-◌, ◌<◌, ◌≤◌, refl, sym, ap, ◌∙◌, subst, Bool, true, false, List, [], ◌∷◌, length, get_or, arith, inl, inr}
use Rattle.std.specs.Prelude.{All, IsSome, ◌==◌, ◌&&◌, ◌||◌, count_by, sum_by, slice_get, is_some, Option, Some, None}
use Rattle.std.specs.List.{AllByRecursion, list_all, list_any, zip}
use Rattle.std.proofs.lemmas.Bool.{and_parts, cases_eq, eqb-true}
use Rattle.std.proofs.lemmas.Bool.Decides.{nat_tests}
use Rattle.std.proofs.lemmas.List.Elements.{All-from_recursion, recursion_from_All}
use Rattle.std.proofs.lemmas.List.Sums.{sum_by-cons}
use Rattle.ix_base.specs.declared.id.WireNo.{WireNo}
use Rattle.ix_conf.specs.Settings.{Settings, settings_of}
use Rattle.ix_conf.specs.declared.settings.Conf.{Conf}
use Rattle.ix_fits.specs.Card.{Card, adds_up, are_closed, card_after, fit_all, fit_entries, fit_rings, fits_bytes, fits_entry, fits_fate, fits_settle, is_whole, opening_table, settled, settles_after}
use Rattle.ix_fits.specs.Connects.{asked_in}
use Rattle.ix_fits.specs.Cutting.{Due, IsCutting, dues, frames_due}
use Rattle.ix_fits.specs.Fits.{left_by}
use Rattle.ix_fits.specs.Journals.{buffer_in, buffer_of, is_frame_of}
use Rattle.ix_groupdef.specs.Calls.{is_empty}
use Rattle.ix_groupdef.specs.Group.{Connect, Cycle}
use Rattle.ix_groupdef.specs.Places.{RiseFrom, accepted}
use Rattle.ix_groupdef.specs.Setting.{Setting}
use Rattle.ix_groupdef.specs.StrayFrames.{AreStraysOf, StraysInOrder}
use Rattle.ix_groupdef.specs.Told.{IsFrame}
use Rattle.ix_groupdef.specs.declared.types.ConnEnd.{ConnEnd}
use Rattle.ix_groupdef.specs.declared.types.GroupRecord.{GroupRecord}
use Rattle.ix_groupdef.specs.declared.types.Stray.{Stray}
use Rattle.ix_groupdef.specs.declared.types.Taken.{Taken}
use Rattle.ix_lines.specs.Words.{last_group}
use Rattle.ix_lines.specs.declared.types.EntryLine.{EntryLine}
use Rattle.ix_lines.specs.declared.types.EntryLine.TheVariants as lines
use Rattle.ix_lines.specs.declared.types.Fate.{Fate}
use Rattle.ix_lines.specs.declared.types.HomeLine.{HomeLine}
use Rattle.ix_lines.specs.declared.types.RingLine.{RingLine}
use Rattle.ix_lines.specs.declared.types.SettleLine.{SettleLine}
use Rattle.ix_playdef.specs.Clock.{clock_after}
use Rattle.ix_playdef.specs.Replies.{FitsGroup}
use Rattle.ix_playdef.specs.Setting.{setting_of_play}
use Rattle.ix_playdef.specs.Sound.{AreBytes}
use Rattle.ix_playdef.specs.declared.order.Reply.{Reply}
use Rattle.ix_reta.specs.Table.{opening_core}
use Rattle.ix_steer.specs.Steering.{group_of_frame, group_of_frame-below}
use Rattle.ix_tcpdef.specs.declared.types.Output.{Output}
use Rattle.ix_tcpdef.specs.declared.types.Output.TheVariants as outputs
use Rattle.ix_tcpdef.specs.declared.types.Told.{Told}
use Rattle.ix_tcpdef.specs.declared.types.Told.TheVariants as told
use Rattle.ix_tellable.specs.Tellable.{CanBeTraced, NamesFrame, NamesFrames, RecordsCanBeTold, has_number}
use Rattle.ix_trace.specs.Sheet.{IsFull, Rise, count_settles}
use Rattle.ix_wire.specs.Entries.{IsThere, Terms}
use Rattle.ix_wire.specs.declared.entry.Entry.{Entry}
use Rattle.ix_wire.specs.declared.entry.Entry.TheVariants as wire
use Rattle.ix_sheet.specs.Lines.{by_place}
use Rattle.ix_sheet.specs.Outcome.{HasBuffer, HasGroup, NamesAll, NamesBuffer, NamesBuffers}
use Rattle.ix_sheet.specs.Play.{IsPlay, PlaysCanBeReported}
use Rattle.ix_sheet.specs.Strays.{group_strays, is_stray_at, stray_line, strays_at}
use Rattle.ix_sheet.specs.declared.outcome.Outcome.{Outcome}
use Rattle.ix_sheet.proofs.Counts.{count-no, count-yes}
use Rattle.ix_sheet.proofs.Dues.{AreGood, IsAccepted, cut-accepted, cut-entered, good-dues}
use Rattle.ix_sheet.proofs.Groups.{one-group}

-- ## Accepted frames and their entries
-- the entry is an accepted frame of the group
pub record IsHeld (g : ℕ) (entries : List EntryLine) (w : ℕ) : Type 0 where
  pub frame : is_frame_of g (slice_get entries w) ≡ true
  pub buffer : is_some (buffer_of entries w) ≡ true

held-one : (g : ℕ) (entries : List EntryLine) (w : ℕ) → IsAccepted g 0 entries w → IsHeld g entries w
held-one g entries w a =
    let z : w - 0 ≡ w = omega arith in
    record {
      frame = subst (λ (v : ℕ). is_frame_of g (slice_get entries v) ≡ true) z a.frame;
      buffer = subst (λ (v : ℕ). is_some (buffer_in (slice_get entries v)) ≡ true) z a.buffer;
    }

abbrev AreHeld : ℕ → List EntryLine → List Taken → Type 0
AreHeld g entries ts = AllByRecursion (λ (t : Taken). IsHeld g entries t.w.0) ts

held-all : (g : ℕ) (entries : List EntryLine) (ts : List Taken) → AllByRecursion (λ (t : Taken). IsAccepted g 0 entries t.w.0) ts → AreHeld g entries ts
held-all g entries [] p = tt
held-all g entries (t ∷ ts) p = (held-one g entries t.w.0 p.0, held-all g entries ts p.1)

-- ## Parts that were told have buffers
some-there : {A : Type 0} (o : Option A) → is_some o ≡ true → IsSome o
some-there None e = absurd (cc)
some-there (Some x) e = refl

any-held : (g : ℕ) (entries : List EntryLine) (w : ℕ) (ts : List Taken) → list_any (has_number w) ts ≡ true → AreHeld g entries ts → IsHeld g entries w
any-held g entries w [] e p = absurd (cc)
any-held g entries w (t ∷ ts) e p = by_test (has_number w t) refl e (λ rest. any-held g entries w ts rest p.1)
  where
    by_test : (b : Bool) → has_number w t ≡ b → (b || list_any (has_number w) ts) ≡ true → (list_any (has_number w) ts ≡ true → IsHeld g entries w) → IsHeld g entries w
    by_test true is f later = subst (IsHeld g entries) (eqb-true t.w.0 w is) p.0
    by_test false is f later = later f

told-held : (g : ℕ) (entries : List EntryLine) (ts : List Taken) (t : Told) → AreHeld g entries ts → NamesFrame ts (outputs.Told t) → HasBuffer entries t
told-held g entries ts told.Knock h n = tt
told-held g entries ts told.ConnectedUp h n = tt
told-held g entries ts told.ConnectedRefused h n = tt
told-held g entries ts told.ConnectedTimeout h n = tt
told-held g entries ts (told.Recv w from len) h n = some-there (buffer_of entries w.0) (any-held g entries w.0 ts n h).buffer
told-held g entries ts told.RecvEnd h n = tt
told-held g entries ts (told.Sent bytes window) h n = tt
told-held g entries ts told.DeadReset h n = tt
told-held g entries ts told.DeadTimeout h n = tt

output-held : (g : ℕ) (entries : List EntryLine) (ts : List Taken) (o : Output) → AreHeld g entries ts → NamesFrame ts o → NamesBuffer entries o
output-held g entries ts (outputs.Frame seg) h n = tt
output-held g entries ts (outputs.Told t) h n = told-held g entries ts t h n
output-held g entries ts (outputs.Ret r) h n = tt

named-held : (g : ℕ) (entries : List EntryLine) (ts : List Taken) (cs : List ConnEnd) → AreHeld g entries ts → All (NamesFrames ts) cs → All (NamesBuffers entries) cs
named-held g entries ts cs h n = λ k d lt i e within j o below. output-held g entries ts _ h (n k d lt i e within j o below)

-- ## Strays
strays-held : (env : Setting) (g : ℕ) (entries : List EntryLine) (ss : List Stray) (ts : List Taken) → AreHeld g entries ts → AreStraysOf env ss ts
    → AllByRecursion (λ (s : Stray). IsHeld g entries s.w.0) ss
strays-held env g entries [] ts h a = tt
strays-held env g entries (s ∷ ss) [] h a = absurd a
strays-held env g entries (s ∷ ss) (t ∷ ts) h (inl a) =
    (subst (IsHeld g entries) (sym (ap (λ (w : WireNo). w.0) a.0.number)) h.0, strays-held env g entries ss ts h.1 a.1)
strays-held env g entries (s ∷ ss) (t ∷ ts) h (inr a) = strays-held env g entries (s ∷ ss) ts h.1 a

rise-later : (replies : List Reply) (g m n at : ℕ) (ss : List Stray) → m ≤ n → Rise n (by_place (stray_line replies g) at ss) → Rise m (by_place (stray_line replies g) at ss)
rise-later replies g m n at [] le p = tt
rise-later replies g m n at (s ∷ ss) le p = (omega (arith, le, p.0), p.1)

strays-rise : (env : Setting) (replies : List Reply) (g n at : ℕ) (ss : List Stray) (ts : List Taken) → RiseFrom n ts → AreStraysOf env ss ts → Rise n (by_place (stray_line replies g) at ss)
strays-rise env replies g n at [] ts r a = tt
strays-rise env replies g n at (s ∷ ss) [] r a = absurd a
strays-rise env replies g n at (s ∷ ss) (t ∷ ts) r (inl a) =
    let same : s.w.0 ≡ t.w.0 = ap (λ (w : WireNo). w.0) a.0.number in
    (omega (arith, same, r.0), rise-later replies g (s.w.0 + 1) (suc t.w.0) (at + 1) ss (omega (arith, same)) (strays-rise env replies g (suc t.w.0) (at + 1) ss ts r.1 a.1))
strays-rise env replies g n at (s ∷ ss) (t ∷ ts) r (inr a) =
    rise-later replies g n (suc t.w.0) at (s ∷ ss) (omega (arith, r.0)) (strays-rise env replies g (suc t.w.0) at (s ∷ ss) ts r.1 a)

-- a rising list has a number once at most
none-below : (replies : List Reply) (w g n at : ℕ) (ss : List Stray) → w < n → Rise n (by_place (stray_line replies g) at ss) → count_by (is_stray_at w) ss ≡ 0
none-below replies w g n at [] lt r = refl
none-below replies w g n at (s ∷ ss) lt r =
    let no : is_stray_at w s ≡ false = grind (arith, nat_tests, lt, r.0) in
    count-no (is_stray_at w) s ss no ∙ none-below replies w g (s.w.0 + 1) (at + 1) ss (omega (arith, lt, r.0)) r.1

once-at : (replies : List Reply) (w g n at : ℕ) (ss : List Stray) → Rise n (by_place (stray_line replies g) at ss) → count_by (is_stray_at w) ss ≤ 1
once-at replies w g n at [] r = omega arith
once-at replies w g n at (s ∷ ss) r = elim (cases_eq s.w.0 w) [
  | inl same ↦ (let yes : is_stray_at w s ≡ true = grind (arith, nat_tests, same) in
      omega (arith, count-yes (is_stray_at w) s ss yes, none-below replies w g (s.w.0 + 1) (at + 1) ss (omega (arith, same)) r.1))
  | inr other ↦ (let no : is_stray_at w s ≡ false = grind (arith, nat_tests, other) in
      omega (arith, count-no (is_stray_at w) s ss no, once-at replies w g (s.w.0 + 1) (at + 1) ss r.1))
]

-- ## What each group leaves
pub record IsTold (entries : List EntryLine) (g : ℕ) (r : GroupRecord) : Type 0 where
  pub fits : FitsGroup r
  pub named : NamesAll entries r
  pub own : AllByRecursion (λ (s : Stray). is_frame_of g (slice_get entries s.w.0) ≡ true) r.strays
  pub held : AllByRecursion (λ (s : Stray). is_some (buffer_of entries s.w.0) ≡ true) r.strays
  pub rises : (replies : List Reply) → Rise 0 (group_strays replies g r)

frames-of : (g : ℕ) (entries : List EntryLine) (ss : List Stray) → AllByRecursion (λ (s : Stray). IsHeld g entries s.w.0) ss
    → AllByRecursion (λ (s : Stray). is_frame_of g (slice_get entries s.w.0) ≡ true) ss
frames-of g entries [] p = tt
frames-of g entries (s ∷ ss) p = (p.0.frame, frames-of g entries ss p.1)

buffers-of : (g : ℕ) (entries : List EntryLine) (ss : List Stray) → AllByRecursion (λ (s : Stray). IsHeld g entries s.w.0) ss
    → AllByRecursion (λ (s : Stray). is_some (buffer_of entries s.w.0) ≡ true) ss
buffers-of g entries [] p = tt
buffers-of g entries (s ∷ ss) p = (p.0.buffer, buffers-of g entries ss p.1)

-- the laws that are used
pub record Laws : Type 0 where
  pub strays : StraysInOrder
  pub tell : RecordsCanBeTold

pub group-told : Laws → (conf : Conf) (frames : List (List ℕ)) (wire : List Entry) (cycles : ℕ → List Cycle) (o : Outcome) → length (settings_of conf).mac ≡ 6 → AllByRecursion AreBytes frames
    → IsPlay (settings_of conf) frames wire cycles o → (g : ℕ) → g < 512 → IsTold o.entries g (left_by (settings_of conf) frames cycles g)
group-told laws conf frames wire cycles o six bytes play g lt =
    let s : Settings = settings_of conf in
    let env : Setting = setting_of_play s frames in
    let ds : List Due = dues frames g (opening_core s.live g).0 o.entries in
    let good : AreGood g 0 o.entries (frames_due ds) = good-dues s frames wire o.entries o.settles g (opening_core s.live g).0 bytes play.card in
    let cut : IsCutting s.batch ds (cycles g) = play.cut g lt in
    let same : accepted (cycles g) ≡ frames_due ds = cut-accepted s.batch ds (cycles g) cut in
    let asked : List Connect = asked_in env s g in
    let traced : CanBeTraced (accepted (cycles g)) (left_by s frames cycles g) =
    laws.tell conf frames asked (cycles g) six (cut-entered s.batch ds (cycles g) cut) (subst (AllByRecursion IsFrame) (sym same) good.each) in
    let held : AreHeld g o.entries (accepted (cycles g)) = subst (AreHeld g o.entries) (sym same) (held-all g o.entries (frames_due ds) good.accepted) in
    let order : AreStraysOf env (left_by s frames cycles g).strays (accepted (cycles g)) = laws.strays env asked (cycles g) in
    let each : AllByRecursion (λ (x : Stray). IsHeld g o.entries x.w.0) (left_by s frames cycles g).strays = strays-held env g o.entries (left_by s frames cycles g).strays (accepted (cycles g)) held order in
    record {
      fits = traced.fits;
      named = named-held g o.entries (accepted (cycles g)) (left_by s frames cycles g).conns held traced.parts;
      own = frames-of g o.entries (left_by s frames cycles g).strays each;
      held = buffers-of g o.entries (left_by s frames cycles g).strays each;
      rises = λ replies. strays-rise env replies g 0 0 (left_by s frames cycles g).strays (accepted (cycles g)) (subst (RiseFrom 0) (sym same) good.rise) order;
    }

-- ## No two strays have one number
own-count : (g : ℕ) (entries : List EntryLine) (w : ℕ) (ss : List Stray) → AllByRecursion (λ (s : Stray). is_frame_of g (slice_get entries s.w.0) ≡ true) ss
    → 1 ≤ count_by (is_stray_at w) ss → is_frame_of g (slice_get entries w) ≡ true
own-count g entries w [] p h = absurd (omega (arith, h))
own-count g entries w (s ∷ ss) p h = elim (cases_eq s.w.0 w) [
  | inl same ↦ subst (λ (v : ℕ). is_frame_of g (slice_get entries v) ≡ true) same p.0
  | inr other ↦ (let no : is_stray_at w s ≡ false = grind (arith, nat_tests, other) in
      own-count g entries w ss p.1 (omega (arith, h, count-no (is_stray_at w) s ss no)))
]

abbrev IsOnce : List EntryLine → ℕ → ℕ → GroupRecord → Type 0
IsOnce entries w g r = AllByRecursion (λ (s : Stray). is_frame_of g (slice_get entries s.w.0) ≡ true) r.strays × (strays_at w r ≤ 1)

record AreOnce (entries : List EntryLine) (w at : ℕ) (rs : List GroupRecord) : Type 0 where
  each : (i : ℕ) (d : GroupRecord) → i < length rs → IsOnce entries w (at + i) (get_or rs i d)

once-first : (entries : List EntryLine) (w at : ℕ) (r : GroupRecord) (rs : List GroupRecord) → AreOnce entries w at (r ∷ rs) → IsOnce entries w at r
once-first entries w at r rs o = subst (λ (n : ℕ). IsOnce entries w n r) (let z : at + 0 ≡ at = omega arith in z) (o.each 0 r (omega arith))

once-later : (entries : List EntryLine) (w at : ℕ) (r : GroupRecord) (rs : List GroupRecord) → AreOnce entries w at (r ∷ rs) → AreOnce entries w (at + 1) rs
once-later entries w at r rs o =
    record { each = λ i d lt. subst (λ (n : ℕ). IsOnce entries w n (get_or rs i d)) (let z : at + suc i ≡ (at + 1) + i = omega arith in z) (o.each (suc i) d (omega (arith, lt))) }

none-later : (entries : List EntryLine) (w g at : ℕ) (rs : List GroupRecord) → is_frame_of g (slice_get entries w) ≡ true → g < at → AreOnce entries w at rs → sum_by (strays_at w) rs ≡ 0
none-later entries w g at [] e lt o = refl
none-later entries w g at (r ∷ rs) e lt o =
    let first : IsOnce entries w at r = once-first entries w at r rs o in
    let none : strays_at w r ≡ 0 = elim (cases_eq (strays_at w r) 0) [
      | inl zeros ↦ zeros
      | inr more ↦ absurd (omega (arith, lt, one-group (slice_get entries w) g at e (own-count at entries w r.strays first.0 (omega (arith, more)))))
    ] in
    omega (arith, sum_by-cons (strays_at w) r rs, none, none-later entries w g (at + 1) rs e (omega (arith, lt)) (once-later entries w at r rs o))

at_most_once : (entries : List EntryLine) (w at : ℕ) (rs : List GroupRecord) → AreOnce entries w at rs → sum_by (strays_at w) rs ≤ 1
at_most_once entries w at [] o = omega arith
at_most_once entries w at (r ∷ rs) o =
    let first : IsOnce entries w at r = once-first entries w at r rs o in
    let later : AreOnce entries w (at + 1) rs = once-later entries w at r rs o in
    elim (cases_eq (strays_at w r) 0) [
      | inl zeros ↦ omega (arith, sum_by-cons (strays_at w) r rs, zeros, at_most_once entries w (at + 1) rs later)
      | inr more ↦ omega (arith, sum_by-cons (strays_at w) r rs, first.1, none-later entries w at (at + 1) rs (own-count at entries w r.strays first.0 (omega (arith, more))) (omega arith) later)
    ]

-- ## The entries of a card that fits
below_last : (n : ℕ) → n < 512 → n ≤ last_group
below_last n lt = omega (arith, lt)

bytes-grouped : (s : Settings) (c : Card) (group ring : ℕ) (fate : Fate) (o : Option (List ℕ)) → fits_bytes s.buffers c group ring fate o ≡ true → group ≤ last_group
bytes-grouped s c group ring fate None e = absurd (cc)
bytes-grouped s c group ring fate (Some bytes) e =
    let first = (and_parts (group == group_of_frame bytes && ring == (c.table group).core) (fits_fate s.buffers c ring (length bytes) fate) e).0 in
    let is : group ≡ group_of_frame bytes = eqb-true group (group_of_frame bytes) (and_parts (group == group_of_frame bytes) (ring == (c.table group).core) first).0 in
    below_last group (omega (arith, is, group_of_frame-below bytes))

entry-grouped : (s : Settings) (frames : List (List ℕ)) (c : Card) (clock : ℕ) (t : Terms) (x : Entry) (y : EntryLine) → IsThere t x → fits_entry s frames c clock x y ≡ true → HasGroup y
entry-grouped s frames c clock t (wire.Frame rec) (lines.Frame shown at group ring fate) there e =
    bytes-grouped s c group.0 ring.0 fate (slice_get frames shown) (and_parts (shown == rec && at == clock) (fits_bytes s.buffers c group.0 ring.0 fate (slice_get frames shown)) e).1
entry-grouped s frames c clock t (wire.Tag g) (lines.Tag h) there e = below_last h.0 (omega (arith, there, eqb-true h.0 g.0 e))
entry-grouped s frames c clock t (wire.Move g to) (lines.Move h d) there e =
    below_last h.0 (omega (arith, there.0, eqb-true h.0 g.0 (and_parts (h.0 == g.0) (d.0 == to.0) e).0))
entry-grouped s frames c clock t x (lines.Time u) there e = tt
entry-grouped s frames c clock t x lines.Settle there e = tt
entry-grouped s frames c clock t (wire.Time u) (lines.Frame shown at group ring fate) there e = absurd (cc)
entry-grouped s frames c clock t (wire.Tag g) (lines.Frame shown at group ring fate) there e = absurd (cc)
entry-grouped s frames c clock t (wire.Move g to) (lines.Frame shown at group ring fate) there e = absurd (cc)
entry-grouped s frames c clock t wire.Settle (lines.Frame shown at group ring fate) there e = absurd (cc)
entry-grouped s frames c clock t (wire.Frame rec) (lines.Tag h) there e = absurd (cc)
entry-grouped s frames c clock t (wire.Time u) (lines.Tag h) there e = absurd (cc)
entry-grouped s frames c clock t (wire.Move g to) (lines.Tag h) there e = absurd (cc)
entry-grouped s frames c clock t wire.Settle (lines.Tag h) there e = absurd (cc)
entry-grouped s frames c clock t (wire.Frame rec) (lines.Move h d) there e = absurd (cc)
entry-grouped s frames c clock t (wire.Time u) (lines.Move h d) there e = absurd (cc)
entry-grouped s frames c clock t (wire.Tag g) (lines.Move h d) there e = absurd (cc)
entry-grouped s frames c clock t wire.Settle (lines.Move h d) there e = absurd (cc)

-- each entry's group is one of the flow groups, there are as many as of the wire list, and the settles are those among them
pub record AreEntries (xs : List Entry) (ys : List EntryLine) (ls : List SettleLine) : Type 0 where
  pub grouped : AllByRecursion HasGroup ys
  pub many : length ys ≡ length xs
  pub settles : length ls ≡ count_settles ys

no_more : (ls : List SettleLine) → is_empty ls ≡ true → length ls ≡ 0
no_more [] e = refl
no_more (l ∷ ls) e = absurd (cc)

count-after : (c : Card) (y : EntryLine) (ys : List EntryLine) (ls : List SettleLine) → fits_settle c y ls ≡ true → length (settles_after y ls) ≡ count_settles ys → length ls ≡ count_settles (y ∷ ys)
count-after c lines.Settle ys [] e h = absurd (cc)
count-after c lines.Settle ys (l ∷ ls) e h = omega (arith, h)
count-after c (lines.Frame rec at group ring fate) ys ls e h = h
count-after c (lines.Time t) ys ls e h = h
count-after c (lines.Tag group) ys ls e h = h
count-after c (lines.Move group to) ys ls e h = h

entries-are : (s : Settings) (frames : List (List ℕ)) (c : Card) (clock : ℕ) (t : Terms) (xs : List Entry) (ys : List EntryLine) (ls : List SettleLine) → AllByRecursion (IsThere t) xs
    → fit_entries s frames c clock xs ys ls ≡ true → AreEntries xs ys ls
entries-are s frames c clock t [] [] ls there e = record { grouped = tt; many = refl; settles = no_more ls e }
entries-are s frames c clock t [] (y ∷ ys) ls there e = absurd (cc)
entries-are s frames c clock t (x ∷ xs) [] ls there e = absurd (cc)
entries-are s frames c clock t (x ∷ xs) (y ∷ ys) ls there e =
    let here : Bool = fits_entry s frames c (clock_after clock x) x y in
    let settles : Bool = fits_settle c y ls in
    let rest : Bool = fit_entries s frames (card_after c y ls) (clock_after clock x) xs ys (settles_after y ls) in
    let two = and_parts (here && settles) rest e in
    let one = and_parts here settles two.0 in
    let more : AreEntries xs ys (settles_after y ls) = entries-are s frames (card_after c y ls) (clock_after clock x) t xs ys (settles_after y ls) there.1 two.1 in
    record {
      grouped = (entry-grouped s frames c (clock_after clock x) t x y there.0 one.0, more.grouped);
      many = ap suc more.many;
      settles = count-after c y ys ls one.1 more.settles;
    }

-- those of a whole play, with the settle before the first entry
pub record AreAll (xs : List Entry) (ys : List EntryLine) (ls : List SettleLine) : Type 0 where
  pub grouped : AllByRecursion HasGroup ys
  pub many : length ys ≡ length xs
  pub settles : length ls ≡ count_settles ys + 1

all-are : (s : Settings) (frames : List (List ℕ)) (t : Terms) (xs : List Entry) (ys : List EntryLine) (ls : List SettleLine) → AllByRecursion (IsThere t) xs → fit_all s frames xs ys ls ≡ true → AreAll xs ys ls
all-are s frames t xs ys [] there e = absurd (cc)
all-are s frames t xs ys (l ∷ ls) there e =
    let opening : Card = settled l.rings (opening_table s.live) in
    let are : AreEntries xs ys ls = entries-are s frames opening 0 t xs ys ls there (and_parts (fit_rings opening l.rings) (fit_entries s frames opening 0 xs ys ls) e).1 in
    record { grouped = are.grouped; many = are.many; settles = omega (arith, are.settles) }

-- ## Settles are full
whole-full : (cores buffers : ℕ) (ls : List SettleLine) → list_all (is_whole cores buffers) ls ≡ true → AllByRecursion (IsFull cores) ls
whole-full cores buffers [] e = tt
whole-full cores buffers (l ∷ ls) e =
    let two = and_parts (is_whole cores buffers l) (list_all (is_whole cores buffers) ls) e in
    let counts = (and_parts (length l.rings == cores && length l.homes == cores) (list_all (λ (p : RingLine × HomeLine). adds_up buffers p.0 p.1) (zip l.rings l.homes)) two.0).0 in
    let both = and_parts (length l.rings == cores) (length l.homes == cores) counts in
    (record { rings = eqb-true (length l.rings) cores both.0; homes = eqb-true (length l.homes) cores both.1 }, whole-full cores buffers ls two.1)

closed-full : (s : Settings) (pools : List ℕ) → are_closed s pools ≡ true → length pools ≡ s.cores
closed-full s pools e = eqb-true (length pools) s.cores (and_parts (length pools == s.cores) (list_all (λ n. n == s.buffers) pools) e).0

-- ## All together
pub plays_can_be_reported : Laws → PlaysCanBeReported
plays_can_be_reported laws conf frames t wire cycles o six bytes far play =
    let s : Settings = settings_of conf in
    let told : (g : ℕ) (d : GroupRecord) → g < length o.groups → IsTold o.entries g (get_or o.groups g d) =
    λ g d lt.
    (let below : g < 512 = omega (arith, lt, play.groups.count) in
    subst (IsTold o.entries g) (sym (play.groups.each g d below)) (group-told laws conf frames wire cycles o six bytes play g below)) in
    let are : AreAll wire o.entries o.settles = all-are s frames t wire o.entries o.settles (recursion_from_All (IsThere t) wire far.there) play.card in
    record {
      groups = play.groups.count;
      fit = λ g d lt. (told g d lt).fits;
      named = λ g d lt. (told g d lt).named;
      apart = λ w. at_most_once o.entries w 0 o.groups (record {
        each = λ g d lt.
            subst (λ (n : ℕ). IsOnce o.entries w n (get_or o.groups g d)) (let z : g ≡ 0 + g = omega arith in z)
            ((told g d lt).own, once-at [] w g 0 0 (get_or o.groups g d).strays ((told g d lt).rises []));
      });
      in_groups = All-from_recursion HasGroup o.entries are.grouped;
      few = omega (arith, are.many, far.count);
      full = whole-full s.cores s.buffers o.settles play.settles;
      count = are.settles;
      closed = closed-full s o.closed play.closed;
    }
