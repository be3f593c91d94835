-- A whole play, and its report.
use Rattle.std.proofs.Common.{◌≡◌, ℕ, suc, zero, ◌+◌, ◌<◌, true, List, [], ◌∷◌, get_or, length, map, refl, sym, ap, ◌∙◌, subst, arith}
use Rattle.std.specs.List.{range_with_len}
use Rattle.ix_base.specs.declared.id.TheConstants.{FLOW_GROUPS}
use Rattle.ix_groupdef.specs.Group.{Cycle}
use Rattle.ix_groupdef.specs.declared.types.GroupRecord.{GroupRecord}
use Rattle.ix_conf.specs.Settings.{Settings, settings_of}
use Rattle.ix_lines.specs.declared.types.EntryLine.{EntryLine}
use Rattle.ix_lines.specs.declared.types.SettleLine.{SettleLine}
use Rattle.ix_trace.specs.declared.sheet.Sheet.{Sheet}
use Rattle.ix_reta.specs.Table.{opening_core}
use Rattle.ix_fits.specs.Cutting.{IsCutting, dues}
use Rattle.ix_fits.specs.Fits.{left_by}
use Rattle.ix_fits.specs.Owners.{all_groups, all_settles}
use Rattle.ix_sheet.specs.Play.{AreLeftBy, PlaysCanBeReported, ReportsFit, play_with}
use Rattle.ix_sheet.specs.Sheet.{head_of}
use Rattle.ix_settled.specs.Moments.{lines_of}
use Rattle.ix_worked.specs.Worked.{PlaysAreWorked}
use Rattle.ix_whole.specs.Whole.{WholesAreReported, WholesArePlays, WholesFit}

-- ## What stands at each place
range-length : (a n : ℕ) → length (range_with_len a n) ≡ n
range-length a zero = refl
range-length a (suc n) = ap suc (range-length (a + 1) n)

map-length : {X Y : Type 0} (f : X → Y) (xs : List X) → length (map f xs) ≡ length xs
map-length f [] = refl
map-length f (x ∷ xs) = ap suc (map-length f xs)

range-at : {X : Type 0} (f : ℕ → X) (a n i : ℕ) (d : X) → i < n → get_or (map f (range_with_len a n)) i d ≡ f (a + i)
range-at f a zero i d lt = absurd (omega (arith, lt))
range-at f a (suc n) zero d lt = (let same : a ≡ a + 0 = omega arith in ap f same)
range-at f a (suc n) (suc i) d lt = range-at f (a + 1) n i d (omega (arith, lt)) ∙ (let same : (a + 1) + i ≡ a + suc i = omega arith in ap f same)

groups-range : (k : ℕ) → k ≡ FLOW_GROUPS → all_groups ≡ range_with_len 0 k
unfolding all_groups
groups-range k e = ap (range_with_len 0) (sym e)

left-by : (k : ℕ) → k ≡ FLOW_GROUPS → (s : Settings) (frames : List (List ℕ)) (cycles : ℕ → List Cycle) (groups : List GroupRecord) → groups ≡ map (left_by s frames cycles) all_groups → AreLeftBy s frames cycles groups
left-by k e s frames cycles groups is =
    let range = is ∙ ap (map (left_by s frames cycles)) (groups-range k e) in
    record {
      count = ap length range ∙ map-length (left_by s frames cycles) (range_with_len 0 k) ∙ range-length 0 k ∙ e;
      each = λ g d lt. ap (λ (z : List GroupRecord). get_or z g d) range ∙ range-at (left_by s frames cycles) 0 k g d (omega (arith, lt, e)) ∙ (let first : 0 + g ≡ g = omega arith in ap (left_by s frames cycles) first);
    }

-- ## The laws
-- a report with these entries and settles, and nothing else
plain_sheet : Settings → List EntryLine → List SettleLine → Sheet
plain_sheet s entries settles = record { head = head_of s; settles = settles; connects = []; entries = entries; strays = []; conns = []; closed = []; replies = 0; drops = 0 }

pub wholes-are-plays : PlaysAreWorked → WholesArePlays
unfolding plain_sheet
wholes-are-plays worked s frames wire env name unit desks m ms o w =
    let r = plain_sheet s m.done (lines_of (m ∷ ms)) in
    let out = worked s frames r env name unit desks m ms (w.played r refl refl) in
    let c = w.records in
    record {
      cycles = out.cycles;
      play = record {
        card = w.card;
        settles = w.whole;
        owners = subst (λ (es : List EntryLine). all_settles (play_with s frames es out.cycles) o.settles ≡ true) (sym w.entries)
            (subst (λ (ls : List SettleLine). all_settles (play_with s frames m.done out.cycles) ls ≡ true) (sym w.settles) out.owners.settles);
        connects = w.connects;
        cut = λ g lt. subst (λ (es : List EntryLine). IsCutting s.batch (dues frames g (opening_core s.live g).0 es) (out.cycles g)) (sym w.entries) (out.cut g lt);
        groups = left-by FLOW_GROUPS refl s frames out.cycles o.groups (c.records ∙ out.close.records c.cores c.groups c.out c.has c.all);
        closed = w.closed;
      };
    }

pub wholes-reported : PlaysAreWorked → PlaysCanBeReported → WholesAreReported
wholes-reported worked reported conf frames x wire env name unit desks m ms o mac bytes so w =
    let h = wholes-are-plays worked (settings_of conf) frames wire env name unit desks m ms o w in
    reported conf frames x wire h.cycles o mac bytes so h.play

pub wholes-fit : PlaysAreWorked → ReportsFit → WholesFit
wholes-fit worked fit conf frames x wire env name unit desks m ms o mac bytes so w replies r are numbers sheet =
    let h = wholes-are-plays worked (settings_of conf) frames wire env name unit desks m ms o w in
    fit conf frames x wire h.cycles o replies r mac bytes so h.play are numbers sheet
