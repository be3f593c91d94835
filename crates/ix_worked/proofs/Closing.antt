-- What the close of the cores hands out.
use Rattle.std.proofs.Common.{◌≡◌, ℕ, suc, zero, ◌+◌, ◌<◌, ◌≤◌, List, [], ◌∷◌, ◌++◌, get_or, length, map, refl, sym, ap, ◌∙◌, subst, arith, append-nil}
use Rattle.std.specs.Prelude.{if◌then◌else◌, is_some, Option, option_to_list}
use Rattle.std.specs.List.{range_with_len}
use Rattle.std.proofs.lemmas.List.{map-append}
use Rattle.ix_base.specs.declared.id.GroupId.{GroupId}
use Rattle.ix_base.specs.declared.id.TheConstants.{FLOW_GROUPS}
use Rattle.ix_mbuf.specs.Buffers.{Buffer}
use Rattle.ix_desk.specs.Desks.{group_at}
use Rattle.ix_desk.specs.Groups.{current_unit, cut_unit, unit_of}
use Rattle.ix_desk.specs.Pieces.{joined}
use Rattle.ix_desk.specs.Views.{CutPiece, Group, Piece, View}
use Rattle.ix_stack.specs.declared.work.Work.{Work}
use Rattle.ix_appdef.specs.declared.application.Application.{Application}
use Rattle.ix_groupdef.specs.declared.env.Env.{Env}
use Rattle.ix_groupdef.specs.declared.types.GroupRecord.{GroupRecord}
use Rattle.ix_groupdef.specs.Group.{Cycle}
use Rattle.ix_core.specs.Closing.{AllFinished, units_below, units_here, units_of}
use Rattle.ix_core.specs.declared.turning.Core.{Core}
use Rattle.ix_fits.specs.Owners.{all_groups}
use Rattle.ix_plainstack.specs.Stack.{Finishes, Stack}
use Rattle.ix_settled.specs.Cuts.{StandsAt}
use Rattle.ix_settled.specs.Moments.{Moment, Opening}
use Rattle.ix_owned.specs.Owned.{HasDesks}

abbrev StackCore : Type 0
StackCore = Core Stack (Env Application)

-- ## Lists
joined-none : {X Y : Type 0} (f : X → List Y) (xs : List X) (d : X) → ((i : ℕ) → i < length xs → f (get_or xs i d) ≡ []) → joined f xs ≡ []
joined-none f [] d none = refl
joined-none f (x ∷ xs) d none = ap (λ z. z ++ joined f xs) (none 0 (omega arith)) ∙ joined-none f xs d (λ i lt. none (suc i) (omega (arith, lt)))

-- only one place of the list gives something
joined-one : {X Y : Type 0} (f : X → List Y) (xs : List X) (d : X) (k : ℕ) (ys : List Y) → k < length xs → f (get_or xs k d) ≡ ys → ((i : ℕ) → i < length xs → (i ≡ k → ⊥) → f (get_or xs i d) ≡ []) → joined f xs ≡ ys
joined-one f [] d k ys lt is none = absurd (omega (arith, lt))
joined-one f (x ∷ xs) d zero ys lt is none =
    ap (λ z. z ++ joined f xs) is ∙ ap (λ z. ys ++ z) (joined-none f xs d (λ i less. none (suc i) (omega (arith, less)) (λ e. omega (arith, e)))) ∙ append-nil ys
joined-one f (x ∷ xs) d (suc k) ys lt is none =
    ap (λ z. z ++ joined f xs) (none 0 (omega arith) (λ e. omega (arith, e))) ∙ joined-one f xs d k ys (omega (arith, lt)) is (λ i less other. none (suc i) (omega (arith, less)) (λ e. other (omega (arith, e))))

range-last : (a n : ℕ) → range_with_len a n ++ (a + n) ∷ [] ≡ range_with_len a (suc n)
range-last a zero = (let same : a + 0 ≡ a = omega arith in ap (λ m. m ∷ []) same)
range-last a (suc n) = (let same : a + suc n ≡ (a + 1) + n = omega arith in ap (λ m. (a ∷ range_with_len (a + 1) n) ++ m ∷ []) same ∙ ap (λ z. a ∷ z) (range-last (a + 1) n))

-- ## What ended, list by list
module _ {U : Type 0} (finished : U → List Buffer → U → Type 0) where
  record Split (xs ys : List (ℕ × U)) (groups : List (GroupId × U)) : Type 0 where
    first : List (GroupId × U)
    second : List (GroupId × U)
    whole : groups ≡ first ++ second
    out_first : List Buffer
    out_second : List Buffer
    all_first : AllFinished finished xs first out_first
    all_second : AllFinished finished ys second out_second

  split : (xs ys : List (ℕ × U)) (groups : List (GroupId × U)) (out : List Buffer) → AllFinished finished (xs ++ ys) groups out → Split xs ys groups
  split [] ys groups out all = record { first = []; second = groups; whole = refl; out_first = []; out_second = out; all_first = refl; all_second = all }
  split (x ∷ xs) ys [] out all = absurd all
  split (x ∷ xs) ys (g ∷ groups) out all =
      let rest = split xs ys groups all.1 all.2.3 in
      record {
        first = g ∷ rest.first;
        second = rest.second;
        whole = ap (λ z. g ∷ z) rest.whole;
        out_first = all.0 ++ rest.out_first;
        out_second = rest.out_second;
        all_first = (all.0, rest.out_first, (all.2.0, all.2.1, refl, rest.all_first));
        all_second = rest.all_second;
      }

-- ## The groups of the cores
module _ (p : Opening) (cycles : ℕ → List Cycle) (m : Moment) (stand : (g : ℕ) → g < FLOW_GROUPS → StandsAt p (cycles g) g m) (cores : List StackCore) (has : HasDesks p.cores m.desks cores)
    (left : ℕ → GroupRecord) (leaves : Stack → GroupRecord)
    (finish : (x : Stack) (bufs : List Buffer) (y : Stack) → Finishes x bufs y → leaves y ≡ leaves x)
    (are_left : (g : ℕ) (lt : g < FLOW_GROUPS) → leaves (stand g lt).unit ≡ left g) where
  unit-there : (x : Group Stack Work) → x.cut ≡ [] → unit_of x ≡ current_unit x.current
  unit-there x none = ap (λ (cs : List (CutPiece Stack Work)). if is_some (cut_unit cs) then cut_unit cs else current_unit x.current) none

  here-is : (g : ℕ) (i : ℕ) (d : StackCore) → i < length cores → units_here g (get_or cores i d) ≡ option_to_list (unit_of (group_at (m.desks i) g))
  here-is g i d lt = ap (λ (v : View Stack Work). option_to_list (unit_of (group_at v g))) (has.each i d (let count = has.count in omega (arith, lt, count)))

  one-unit : (g : ℕ) (lt : g < FLOW_GROUPS) (d : StackCore) → joined (units_here g) cores ≡ (stand g lt).unit ∷ []
  one-unit g lt d =
      let s = stand g lt in
      let count = has.count in
      let within = s.within in
      joined-one (units_here g) cores d s.core (s.unit ∷ []) (omega (arith, count, within))
      (here-is g s.core d (omega (arith, count, within)) ∙ ap option_to_list (unit-there (group_at (m.desks s.core) g) (s.no_cut s.core s.within) ∙ ap (λ (o : Option (Piece Stack Work)). current_unit o) s.is ∙ s.there))
      (λ i less other. (let low : i < p.cores = omega (arith, count, less) in
      here-is g i d less ∙ ap option_to_list (unit-there (group_at (m.desks i) g) (s.no_cut i low) ∙ ap (λ (o : Option (Piece Stack Work)). current_unit o) (s.no_current i low other))))

  some-core : (g : ℕ) (lt : g < FLOW_GROUPS) → StackCore
  some-core g lt = first-of cores (let count = has.count in let within = (stand g lt).within in omega (arith, count, within))
    where
      first-of : (cs : List StackCore) → 0 < length cs → StackCore
      first-of [] none = absurd (omega (arith, none))
      first-of (c ∷ cs) some = c

  -- the groups below a number
  record AreLeft (n : ℕ) (groups : List (GroupId × Stack)) : Type 0 where
    numbers : map (λ (x : GroupId × Stack). x.0.0) groups ≡ range_with_len 0 n
    records : map (λ (x : GroupId × Stack). leaves x.1) groups ≡ map left (range_with_len 0 n)

  -- one more
  last-left : (n : ℕ) (lt : n < FLOW_GROUPS) (groups : List (GroupId × Stack)) (out : List Buffer) → AllFinished Finishes ((n, (stand n lt).unit) ∷ []) groups out
      → (map (λ (x : GroupId × Stack). x.0.0) groups ≡ n ∷ []) × (map (λ (x : GroupId × Stack). leaves x.1) groups ≡ left n ∷ [])
  last-left n lt [] out all = absurd all
  last-left n lt (g ∷ []) out all = (ap (λ k. k ∷ []) all.2.0, ap (λ (z : GroupRecord). z ∷ []) (finish (stand n lt).unit all.0 g.1 all.2.1 ∙ are_left n lt))
  last-left n lt (g ∷ h ∷ groups) out all = absurd all.2.3

  groups-left : (n : ℕ) → n ≤ FLOW_GROUPS → (groups : List (GroupId × Stack)) (out : List Buffer) → AllFinished Finishes (units_below cores n) groups out → AreLeft n groups
  unfolding units_below
  groups-left zero le [] out all = record { numbers = refl; records = refl }
  groups-left zero le (g ∷ groups) out all = absurd all
  groups-left (suc n) le groups out all =
      let lt : n < FLOW_GROUPS = le in
      let s = split Finishes (units_below cores n) (units_of n cores) groups out all in
      let before = groups-left n (omega (arith, le)) s.first s.out_first s.all_first in
      let own = ap (λ (us : List Stack). map (λ (u : Stack). (let x : ℕ × Stack = (n, u) in x)) us) (one-unit n lt (some-core n lt)) in
      let last = last-left n lt s.second s.out_second (subst (λ (us : List (ℕ × Stack)). AllFinished Finishes us s.second s.out_second) own s.all_second) in
      let first : 0 + n ≡ n = omega arith in
      let range : range_with_len 0 n ++ n ∷ [] ≡ range_with_len 0 (suc n) = ap (λ k. range_with_len 0 n ++ k ∷ []) (sym first) ∙ range-last 0 n in
      record {
        numbers = ap (map (λ (x : GroupId × Stack). x.0.0)) s.whole ∙ map-append (λ (x : GroupId × Stack). x.0.0) s.first s.second
            ∙ ap (λ z. z ++ map (λ (x : GroupId × Stack). x.0.0) s.second) before.numbers ∙ ap (λ z. range_with_len 0 n ++ z) last.0 ∙ range;
        records = ap (map (λ (x : GroupId × Stack). leaves x.1)) s.whole ∙ map-append (λ (x : GroupId × Stack). leaves x.1) s.first s.second
            ∙ ap (λ z. z ++ map (λ (x : GroupId × Stack). leaves x.1) s.second) before.records ∙ ap (λ z. map left (range_with_len 0 n) ++ z) last.1
            ∙ sym (map-append left (range_with_len 0 n) (n ∷ [])) ∙ ap (map left) range;
      }

  pub closed-numbers : (k : ℕ) → k ≡ FLOW_GROUPS → all_groups ≡ range_with_len 0 k → (groups : List (GroupId × Stack)) (out : List Buffer) → AllFinished Finishes (units_below cores k) groups out
      → map (λ (x : GroupId × Stack). x.0.0) groups ≡ all_groups
  closed-numbers k e range groups out all = (groups-left k (omega (arith, e)) groups out all).numbers ∙ sym range

  pub closed-records : (k : ℕ) → k ≡ FLOW_GROUPS → all_groups ≡ range_with_len 0 k → (groups : List (GroupId × Stack)) (out : List Buffer) → AllFinished Finishes (units_below cores k) groups out
      → map (λ (x : GroupId × Stack). leaves x.1) groups ≡ map left all_groups
  closed-records k e range groups out all = (groups-left k (omega (arith, e)) groups out all).records ∙ ap (map left) (sym range)

pub groups-range : (k : ℕ) → k ≡ FLOW_GROUPS → all_groups ≡ range_with_len 0 k
unfolding all_groups
groups-range k e = ap (range_with_len 0) (sym e)
