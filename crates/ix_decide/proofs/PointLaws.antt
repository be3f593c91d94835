-- What a card that fits says of a report, and which point fails first.
use Rattle.std.proofs.Common.{◌≡◌, ℕ, zero, suc, ◌^◌, ◌<◌, ◌≤◌, ◌⊎◌, inl, inr, refl, sym, ap, ◌∙◌, subst, Bool, true, false, List, [], ◌∷◌, length, get_or, arith, All}
use Rattle.std.specs.Prelude.{if◌then◌else◌, ◌==◌, ◌&&◌, nat_lt, slice_get, IfNone, IfSome, Option, Some, None}
use Rattle.std.specs.Bool.{Decides}
use Rattle.std.specs.List.{AllByRecursion}
use Rattle.std.proofs.lemmas.Bool.{and_parts, both_ways, ltb-false}
use Rattle.ix_base.specs.declared.id.BufId.{BufId}
use Rattle.ix_base.specs.declared.id.TheConstants.{BUFFER_BYTES}
use Rattle.ix_conf.specs.Settings.{Settings}
use Rattle.ix_groupdef.specs.Group.{Cycle}
use Rattle.ix_lines.specs.declared.types.EntryLine.{EntryLine}
use Rattle.ix_lines.specs.declared.types.EntryLine.TheVariants as lines
use Rattle.ix_lines.specs.declared.types.Fate.{Fate}
use Rattle.ix_lines.specs.declared.types.Fate.TheVariants as fates
use Rattle.ix_lines.specs.declared.types.SettleLine.{SettleLine}
use Rattle.ix_playdef.specs.Clock.{clock_after}
use Rattle.ix_trace.specs.declared.sheet.Sheet.{Sheet}
use Rattle.ix_trace.specs.Sheet.{IsReport}
use Rattle.ix_wire.specs.declared.entry.Entry.{Entry}
use Rattle.ix_wire.specs.declared.entry.Entry.TheVariants as wire
use Rattle.ix_fits.specs.Card.{Card, card_after, fit_all, fit_entries, fit_rings, fits_bytes, fits_entry, fits_fate, fits_settle, fits_short, opening_table, settled, settles_after}
use Rattle.ix_fits.specs.Fits.{CardFits, ConnectionsFit, Fits, GroupsFit, OwnersFit}
use Rattle.ix_fits.specs.Readings.{ReadingsFit, cycles_told}
use Rattle.ix_groupdef.specs.Env.{setting_of}
use Rattle.ix_pcap.specs.declared.records.Span.{Span}
use Rattle.ix_pcap.specs.Capture.{IsSpanOf, frames_of}
use Rattle.ix_playdef.specs.Setting.{setting_of_play}
use Rattle.ix_tcpdef.specs.Sound.{IsInRange}
use Rattle.ix_fits.specs.Connects.{asked_of}
use Rattle.ix_decide.specs.declared.play.Play.{Play}
use Rattle.ix_decide.specs.declared.points.Point.{Point}
use Rattle.ix_decide.specs.Points.{IsPlay, settings_in, sheet_in}
use Rattle.ix_decide.specs.declared.points.Point.TheVariants as points
use Rattle.ix_places.specs.Filed.{RepliesFitIn}
use Rattle.ix_decide.specs.Answer.{AreCut, FourFit, IsFirst, ThreeFit}
use Rattle.ix_told.specs.Short.{AreShort, IsHeldShort, IsShortIfAny, IsShortLine}

-- ## Accepted frames are short
buffer-short : (n : ℕ) (c : Card) (group ring : ℕ) (b : BufId) (o : Option (List ℕ)) → fits_bytes n c group ring (fates.Buf b) o ≡ true → IsShortIfAny o
buffer-short n c group ring b None e = tt
buffer-short n c group ring b (Some bytes) e = by_test (nat_lt BUFFER_BYTES (length bytes)) refl (and_parts _ (fits_fate n c ring (length bytes) (fates.Buf b)) e).1
  where
    by_test : (t : Bool) → nat_lt BUFFER_BYTES (length bytes) ≡ t → (if t then false else fits_short n c ring (fates.Buf b)) ≡ true → length bytes ≤ 2048
    by_test true is f = absurd (cc)
    by_test false is f = ltb-false 2048 (length bytes) is

fate-short : (n : ℕ) (c : Card) (group ring : ℕ) (fate : Fate) (o : Option (List ℕ)) → fits_bytes n c group ring fate o ≡ true → IsHeldShort fate o
fate-short n c group ring (fates.Buf b) o e = buffer-short n c group ring b o e
fate-short n c group ring (fates.RingFull k) o e = tt
fate-short n c group ring (fates.NoBuffer k) o e = tt
fate-short n c group ring (fates.TooLong k) o e = tt

entry-short : (s : Settings) (frames : List (List ℕ)) (c : Card) (clock : ℕ) (x : Entry) (y : EntryLine) → fits_entry s frames c clock x y ≡ true → IsShortLine frames y
entry-short s frames c clock (wire.Frame rec) (lines.Frame shown at group ring fate) e =
    fate-short s.buffers c group.0 ring.0 fate (slice_get frames shown)
    (and_parts (shown == rec && at == clock) (fits_bytes s.buffers c group.0 ring.0 fate (slice_get frames shown)) e).1
entry-short s frames c clock (wire.Time t) (lines.Frame shown at group ring fate) e = absurd (cc)
entry-short s frames c clock (wire.Tag g) (lines.Frame shown at group ring fate) e = absurd (cc)
entry-short s frames c clock (wire.Move g to) (lines.Frame shown at group ring fate) e = absurd (cc)
entry-short s frames c clock wire.Settle (lines.Frame shown at group ring fate) e = absurd (cc)
entry-short s frames c clock x (lines.Time t) e = tt
entry-short s frames c clock x (lines.Tag group) e = tt
entry-short s frames c clock x (lines.Move group to) e = tt
entry-short s frames c clock x lines.Settle e = tt

entries-short : (s : Settings) (frames : List (List ℕ)) (c : Card) (clock : ℕ) (xs : List Entry) (ys : List EntryLine) (ls : List SettleLine) → fit_entries s frames c clock xs ys ls ≡ true
    → AllByRecursion (IsShortLine frames) ys
entries-short s frames c clock [] [] ls e = tt
entries-short s frames c clock [] (y ∷ ys) ls e = absurd (cc)
entries-short s frames c clock (x ∷ xs) [] ls e = absurd (cc)
entries-short s frames c clock (x ∷ xs) (y ∷ ys) ls e =
    let parts = and_parts (fits_entry s frames c (clock_after clock x) x y && fits_settle c y ls) (fit_entries s frames (card_after c y ls) (clock_after clock x) xs ys (settles_after y ls)) e in (
      entry-short s frames c (clock_after clock x) x y (and_parts (fits_entry s frames c (clock_after clock x) x y) (fits_settle c y ls) parts.0).0,
      entries-short s frames (card_after c y ls) (clock_after clock x) xs ys (settles_after y ls) parts.1,
    )

entries-long : (s : Settings) (frames : List (List ℕ)) (c : Card) (clock : ℕ) (xs : List Entry) (ys : List EntryLine) (ls : List SettleLine) → fit_entries s frames c clock xs ys ls ≡ true
    → length xs ≡ length ys
entries-long s frames c clock [] [] ls e = refl
entries-long s frames c clock [] (y ∷ ys) ls e = absurd (cc)
entries-long s frames c clock (x ∷ xs) [] ls e = absurd (cc)
entries-long s frames c clock (x ∷ xs) (y ∷ ys) ls e =
    let parts = and_parts (fits_entry s frames c (clock_after clock x) x y && fits_settle c y ls) (fit_entries s frames (card_after c y ls) (clock_after clock x) xs ys (settles_after y ls)) e in
    ap suc (entries-long s frames (card_after c y ls) (clock_after clock x) xs ys (settles_after y ls) parts.1)

all-from : (frames : List (List ℕ)) (ys : List EntryLine) → AllByRecursion (IsShortLine frames) ys → AreShort frames ys
all-from frames [] all = λ k d lt. absurd (omega (arith, lt))
all-from frames (y ∷ ys) all = at (all-from frames ys all.1)
  where
    at : AreShort frames ys → (k : ℕ) (d : EntryLine) → k < length (y ∷ ys) → IsShortLine frames (get_or (y ∷ ys) k d)
    at rest zero d lt = all.0
    at rest (suc k) d lt = rest k d (omega (arith, lt))

-- the settle before the first entry, and then the entries
all-entries : (s : Settings) (frames : List (List ℕ)) (xs : List Entry) (ys : List EntryLine) (ls : List SettleLine) → fit_all s frames xs ys ls ≡ true
    → (c : Card) × (rest : List SettleLine) × (fit_entries s frames c 0 xs ys rest ≡ true)
all-entries s frames xs ys [] e = absurd (cc)
all-entries s frames xs ys (l ∷ ls) e =
    let opening : Card = settled l.rings (opening_table s.live) in
    (opening, ls, (and_parts (fit_rings opening l.rings) (fit_entries s frames opening 0 xs ys ls) e).1)

pub card-short : (s : Settings) (frames : List (List ℕ)) (xs : List Entry) (r : Sheet) → CardFits s frames xs r → AreShort frames r.entries
card-short s frames xs r card =
    let some = all-entries s frames xs r.entries r.settles card.entries_are in
    all-from frames r.entries (entries-short s frames some.0 0 xs r.entries some.1 some.2)

pub card-long : (s : Settings) (frames : List (List ℕ)) (xs : List Entry) (r : Sheet) → CardFits s frames xs r → length xs ≡ length r.entries
card-long s frames xs r card =
    let some = all-entries s frames xs r.entries r.settles card.entries_are in
    entries-long s frames some.0 0 xs r.entries some.1 some.2

-- ## A play whose card fits
pub play-holds : (p : Play) (wire : List Entry) (spans : List Span) → p.spans.now ≡ spans → All (IsSpanOf p.bytes.now) spans
    → setting_of p.env.now ≡ setting_of_play (settings_in p) (frames_of p.bytes.now spans) → IsInRange p.env.now.cfg → length p.env.now.local.mac ≡ 6 → p.asked.now ≡ asked_of (setting_of p.env.now) (settings_in p)
    → length wire < 2 ^ 32 → CardFits (settings_in p) (frames_of p.bytes.now spans) wire (sheet_in p) → IsPlay p
play-holds p wire spans same lie setting range mac asked few card =
    let long : length wire ≡ length (sheet_in p).entries = card-long (settings_in p) (frames_of p.bytes.now spans) wire (sheet_in p) card in
    record {
      spans = subst (λ (xs : List Span). All (IsSpanOf p.bytes.now) xs) (sym same) lie;
      setting = setting ∙ ap (λ (xs : List Span). setting_of_play (settings_in p) (frames_of p.bytes.now xs)) (sym same);
      range = range;
      mac = omega (arith, mac);
      asked = asked;
      numbers = subst (λ (n : ℕ). n < 2 ^ 32) long few;
      short = subst (λ (xs : List Span). AreShort (frames_of p.bytes.now xs) (sheet_in p).entries) (sym same)
          (card-short (settings_in p) (frames_of p.bytes.now spans) wire (sheet_in p) card);
    }

pub ruleset for_play = (play-holds)

-- ## The first that fails
fails : {P : Type 0} → (t : Bool) → Decides t P → t ≡ false → P → ⊥
fails t d e p = both_ways t e (d.1 p)

card-at : (s : Settings) (frames given : List (List ℕ)) (xs : List Entry) (r : Sheet) (t : Bool) → given ≡ frames → Decides t (CardFits s given xs r) → Decides t (CardFits s frames xs r)
card-at s frames given xs r t e d = subst (λ (fs : List (List ℕ)). Decides t (CardFits s fs xs r)) e d

pub first-card : (s : Settings) (frames given : List (List ℕ)) (xs : List Entry) (r : Sheet) (file : List ℕ) (cycles : ℕ → List Cycle) (t : Bool) → given ≡ frames
    → Decides t (CardFits s given xs r) → t ≡ false → IsFirst (Some points.Card) s frames xs r file cycles
first-card s frames given xs r file cycles t same d e = inl (fails t (card-at s frames given xs r t same d) e)

pub card-holds : (s : Settings) (frames given : List (List ℕ)) (xs : List Entry) (r : Sheet) (t : Bool) → given ≡ frames → Decides t (CardFits s given xs r) → t ≡ true → CardFits s frames xs r
card-holds s frames given xs r t same d e = (card-at s frames given xs r t same d).0 e

pub first-uncut : (s : Settings) (frames : List (List ℕ)) (xs : List Entry) (r : Sheet) (file : List ℕ) (cycles : ℕ → List Cycle) (t : Bool) → CardFits s frames xs r
    → Decides t (AreCut s frames r cycles) → t ≡ false → IsFirst (Some points.Groups) s frames xs r file cycles
first-uncut s frames xs r file cycles t card d e = (card, inl (fails t d e))

pub first-owners : (s : Settings) (frames : List (List ℕ)) (xs : List Entry) (r : Sheet) (file : List ℕ) (cycles : ℕ → List Cycle) (a t : Bool) → CardFits s frames xs r
    → Decides a (AreCut s frames r cycles) → a ≡ true → Decides t (OwnersFit s frames r cycles) → t ≡ false → IsFirst (Some points.Card) s frames xs r file cycles
first-owners s frames xs r file cycles a t card cut is d e = inr (card, cut.0 is, fails t d e)

pub first-groups : (s : Settings) (frames : List (List ℕ)) (xs : List Entry) (r : Sheet) (file : List ℕ) (cycles : ℕ → List Cycle) (a b t : Bool) → CardFits s frames xs r
    → Decides a (AreCut s frames r cycles) → a ≡ true → Decides b (OwnersFit s frames r cycles) → b ≡ true → Decides t (GroupsFit s frames r cycles) → t ≡ false
    → IsFirst (Some points.Groups) s frames xs r file cycles
first-groups s frames xs r file cycles a b t card cut is owners fit d e = (card, inr (cut.0 is, owners.0 fit, fails t d e))

pub first-connections : (s : Settings) (frames : List (List ℕ)) (xs : List Entry) (r : Sheet) (file : List ℕ) (cycles : ℕ → List Cycle) (b g t : Bool) → CardFits s frames xs r
    → Decides b (OwnersFit s frames r cycles) → b ≡ true → Decides g (GroupsFit s frames r cycles) → g ≡ true → Decides t (ConnectionsFit s frames r cycles) → t ≡ false
    → IsFirst (Some points.Connections) s frames xs r file cycles
first-connections s frames xs r file cycles b g t card owners fit groups all d e = (card, owners.0 fit, groups.0 all, fails t d e)

three-hold : (s : Settings) (frames : List (List ℕ)) (xs : List Entry) (r : Sheet) (cycles : ℕ → List Cycle) (b g c : Bool) → CardFits s frames xs r
    → Decides b (OwnersFit s frames r cycles) → b ≡ true → Decides g (GroupsFit s frames r cycles) → g ≡ true → Decides c (ConnectionsFit s frames r cycles) → c ≡ true
    → ThreeFit s frames xs r cycles
three-hold s frames xs r cycles b g c card owners fit groups all conns same = record { card = card; owners = owners.0 fit; groups = groups.0 all; connections = conns.0 same }

pub first-replies : (s : Settings) (frames : List (List ℕ)) (xs : List Entry) (r : Sheet) (file : List ℕ) (cycles : ℕ → List Cycle) (b g c t : Bool) → CardFits s frames xs r
    → Decides b (OwnersFit s frames r cycles) → b ≡ true → Decides g (GroupsFit s frames r cycles) → g ≡ true → Decides c (ConnectionsFit s frames r cycles) → c ≡ true
    → Decides t (RepliesFitIn s frames xs r file cycles) → t ≡ false → IsFirst (Some points.Replies) s frames xs r file cycles
first-replies s frames xs r file cycles b g c t card owners fit groups all conns same d e = (three-hold s frames xs r cycles b g c card owners fit groups all conns same, fails t d e)

pub none-fails : (s : Settings) (frames : List (List ℕ)) (xs : List Entry) (r : Sheet) (file : List ℕ) (cycles : ℕ → List Cycle) (b g c t : Bool) → CardFits s frames xs r
    → Decides b (OwnersFit s frames r cycles) → b ≡ true → Decides g (GroupsFit s frames r cycles) → g ≡ true → Decides c (ConnectionsFit s frames r cycles) → c ≡ true
    → Decides t (RepliesFitIn s frames xs r file cycles) → t ≡ true → IsFirst None s frames xs r file cycles
none-fails s frames xs r file cycles b g c t card owners fit groups all conns same replies filed =
    record { three = three-hold s frames xs r cycles b g c card owners fit groups all conns same; replies = replies.0 filed }

pub ruleset for_points = (first-uncut, first-owners, first-groups, first-connections, first-replies, none-fails)

pub ruleset for_card = (first-card, card-holds)

-- ## What a failing point refuses
four-from : ReadingsFit → (s : Settings) (frames : List (List ℕ)) (xs : List Entry) (r : Sheet) (file : List ℕ) → Fits s frames xs r file → FourFit s frames xs r file (cycles_told s frames r)
four-from law s frames xs r file f =
    let told = law s frames xs r file f.choice f.fits in
    record {
      three = record { card = told.card; owners = told.owners; groups = told.groups; connections = told.connections };
      replies = record { places = f.choice.places; replies = f.choice.replies; fit = told.replies };
    }

not-four : (s : Settings) (frames : List (List ℕ)) (xs : List Entry) (r : Sheet) (file : List ℕ) (cycles : ℕ → List Cycle) (p : Point) → IsFirst (Some p) s frames xs r file cycles
    → FourFit s frames xs r file cycles → ⊥
not-four s frames xs r file cycles points.Card (inl never) f = never f.three.card
not-four s frames xs r file cycles points.Card (inr never) f = never.2 f.three.owners
not-four s frames xs r file cycles points.Groups first f = by_cut first.1
  where
    by_cut : (AreCut s frames r cycles → ⊥) ⊎ (AreCut s frames r cycles × OwnersFit s frames r cycles × (GroupsFit s frames r cycles → ⊥)) → ⊥
    by_cut (inl never) = never (λ g lt. (f.three.groups.each g lt).cut)
    by_cut (inr never) = never.2 f.three.groups
not-four s frames xs r file cycles points.Connections first f = first.3 f.three.connections
not-four s frames xs r file cycles points.Replies first f = first.1 f.replies

pub refuses : ReadingsFit → (s : Settings) (frames : List (List ℕ)) (xs : List Entry) (r : Sheet) (file : List ℕ) (point : Option Point) → IsFirst point s frames xs r file (cycles_told s frames r)
    → IfSome point (λ p. Fits s frames xs r file → ⊥)
refuses law s frames xs r file None first = tt
refuses law s frames xs r file (Some p) first = λ f. not-four s frames xs r file (cycles_told s frames r) p first (four-from law s frames xs r file f)

-- ## What four points show
pub all-fit : (s : Settings) (frames : List (List ℕ)) (xs : List Entry) (r : Sheet) (file : List ℕ) (point : Option Point) → IsReport r → IsFirst point s frames xs r file (cycles_told s frames r)
    → IfNone point (Fits s frames xs r file)
all-fit s frames xs r file None report first =
    record {
      report = report;
      choice = record { cycles = cycles_told s frames r; places = first.replies.places; replies = first.replies.replies };
      fits = record {
        card = first.three.card;
        owners = first.three.owners;
        groups = first.three.groups;
        connections = first.three.connections;
        replies = first.replies.fit;
      };
    }
all-fit s frames xs r file (Some p) report first = tt
