-- The cores and the tags of the flow groups while classes are moved.
use Rattle.std.proofs.Common.{◌≡◌, ◌≢◌, ℕ, zero, suc, ◌+◌, ◌%◌, ◌<◌, List, [], ◌∷◌, ◌++◌, length, refl, ap, sym, ◌∙◌, subst, arith, Bool, true, false, Option, Some, None, length-append}
use Rattle.std.specs.Prelude.{◌==◌, fold, slice_get, slice_set}
use Rattle.std.proofs.lemmas.Bool.{eqb-true, eqb-false}
use Rattle.std.proofs.lemmas.List.{length-set}
use Rattle.ix_base.specs.declared.id.CoreId.{CoreId}
use Rattle.ix_wire.specs.Table.{earlier, no_tags, opening_cores}
use Rattle.ix_gen.specs.Texts.{class_behind}
use Rattle.ix_gen.specs.Wire.{core}

-- ---- one place of a list
pub get_set_same : {X : Type 0} (xs : List X) (i : ℕ) (x : X) → i < length xs → slice_get (slice_set xs i x) i ≡ Some x
get_set_same [] i x h = absurd (omega arith)
get_set_same (y ∷ xs) zero x h = refl
get_set_same (y ∷ xs) (suc i) x h = get_set_same xs i x (omega arith)

pub get_set_other : {X : Type 0} (xs : List X) (i j : ℕ) (x : X) → j ≢ i → slice_get (slice_set xs i x) j ≡ slice_get xs j
get_set_other [] i j x other = refl
get_set_other (y ∷ xs) zero zero x other = absurd (other refl)
get_set_other (y ∷ xs) zero (suc j) x other = refl
get_set_other (y ∷ xs) (suc i) zero x other = refl
get_set_other (y ∷ xs) (suc i) (suc j) x other = get_set_other xs i j x (λ e. other (ap suc e))

get_front : {X : Type 0} (xs ys : List X) (i : ℕ) → i < length xs → slice_get (xs ++ ys) i ≡ slice_get xs i
get_front [] ys i h = absurd (omega arith)
get_front (x ∷ xs) ys zero h = refl
get_front (x ∷ xs) ys (suc i) h = get_front xs ys i (omega arith)

get_behind : {X : Type 0} (xs : List X) (y : X) → slice_get (xs ++ y ∷ []) (length xs) ≡ Some y
get_behind [] y = refl
get_behind (x ∷ xs) y = get_behind xs y

-- an element more at the end of a list of n
get_more : {X : Type 0} (xs : List X) (y : X) (n i : ℕ) (o : Option X) → length xs ≡ n → i < suc n
    → (i < n → slice_get xs i ≡ o) → (i ≡ n → Some y ≡ o) → slice_get (xs ++ y ∷ []) i ≡ o
get_more xs y n i o count below front last = go (i == n) refl where
  go : (b : Bool) → (i == n) ≡ b → slice_get (xs ++ y ∷ []) i ≡ o
  go true e =
      let same : i ≡ n = eqb-true i n e in
      let at : i ≡ length xs = omega (arith, same, count) in
      ap (slice_get (xs ++ y ∷ [])) at ∙ get_behind xs y ∙ last same
  go false e =
      let other : i ≢ n = eqb-false i n e in
      let less : i < n = omega (arith, other) in
      get_front xs (y ∷ []) i (omega (arith, less, count)) ∙ front less

-- ---- the start of a play
pub cores_length : (n : ℕ) → length (opening_cores 4 n) ≡ n
unfolding opening_cores
cores_length zero = refl
cores_length (suc n) =
    let parts = length-append (opening_cores 4 n) (core (n % 128 % 4) ∷ []) in
    let front = cores_length n in
    omega (arith, parts, front)

pub cores_at : (n g : ℕ) → g < n → slice_get (opening_cores 4 n) g ≡ Some (core (g % 128 % 4))
unfolding opening_cores
cores_at zero g h = absurd (omega arith)
cores_at (suc n) g h =
    get_more (opening_cores 4 n) (core (n % 128 % 4)) n g (Some (core (g % 128 % 4))) (cores_length n) h (cores_at n g)
    (λ e. ap (λ k. Some (core (k % 128 % 4))) (sym e))

pub tags_length : (n : ℕ) → length (no_tags n) ≡ n
unfolding no_tags
tags_length zero = refl
tags_length (suc n) =
    let parts = length-append (no_tags n) (None ∷ []) in
    let front = tags_length n in
    omega (arith, parts, front)

pub tags_at : (n g : ℕ) → g < n → slice_get (no_tags n) g ≡ Some None
unfolding no_tags
tags_at zero g h = absurd (omega arith)
tags_at (suc n) g h = get_more (no_tags n) None n g (Some None) (tags_length n) h (tags_at n g) (λ e. refl)

-- ---- the four groups of a class
abbrev pub set_class : {X : Type 0} → List X → ℕ → X → List X
set_class xs p v =
    slice_set (slice_set (slice_set (slice_set xs p v) (p + 128) v) (p + 128 + 128) v) (p + 128 + 128 + 128) v

-- the group is of another class
pub record IsApart (p g : ℕ) : Type 0 where
  pub first : g ≢ p
  pub second : g ≢ p + 128
  pub third : g ≢ p + 128 + 128
  pub fourth : g ≢ p + 128 + 128 + 128

pub class_length : {X : Type 0} (xs : List X) (p : ℕ) (v : X) → length (set_class xs p v) ≡ length xs
class_length xs p v =
    length-set (slice_set (slice_set (slice_set xs p v) (p + 128) v) (p + 128 + 128) v) (p + 128 + 128 + 128) v
    ∙ length-set (slice_set (slice_set xs p v) (p + 128) v) (p + 128 + 128) v
    ∙ length-set (slice_set xs p v) (p + 128) v
    ∙ length-set xs p v

pub class_apart : {X : Type 0} (xs : List X) (p : ℕ) (v : X) (g : ℕ) → IsApart p g → slice_get (set_class xs p v) g ≡ slice_get xs g
class_apart xs p v g a =
    get_set_other (slice_set (slice_set (slice_set xs p v) (p + 128) v) (p + 128 + 128) v) (p + 128 + 128 + 128) g v a.fourth
    ∙ get_set_other (slice_set (slice_set xs p v) (p + 128) v) (p + 128 + 128) g v a.third
    ∙ get_set_other (slice_set xs p v) (p + 128) g v a.second
    ∙ get_set_other xs p g v a.first

-- what the four groups have
pub record HasFour {X : Type 0} (xs : List X) (p : ℕ) (v : X) : Type 0 where
  pub first : slice_get xs p ≡ Some v
  pub second : slice_get xs (p + 128) ≡ Some v
  pub third : slice_get xs (p + 128 + 128) ≡ Some v
  pub fourth : slice_get xs (p + 128 + 128 + 128) ≡ Some v

pub class_set : {X : Type 0} (xs : List X) (p : ℕ) (v : X) → p < 128 → length xs ≡ 512 → HasFour (set_class xs p v) p v
class_set xs p v small count =
    let a = slice_set xs p v in
    let b = slice_set a (p + 128) v in
    let c = slice_set b (p + 128 + 128) v in
    let la : length a ≡ 512 = length-set xs p v ∙ count in
    let lb : length b ≡ 512 = length-set a (p + 128) v ∙ la in
    let lc : length c ≡ 512 = length-set b (p + 128 + 128) v ∙ lb in
    record {
      first =
          get_set_other c (p + 128 + 128 + 128) p v (λ e. omega (arith, e)) ∙ get_set_other b (p + 128 + 128) p v (λ e. omega (arith, e))
          ∙ get_set_other a (p + 128) p v (λ e. omega (arith, e)) ∙ get_set_same xs p v (omega (arith, count));
      second =
          get_set_other c (p + 128 + 128 + 128) (p + 128) v (λ e. omega (arith, e)) ∙ get_set_other b (p + 128 + 128) (p + 128) v (λ e. omega (arith, e))
          ∙ get_set_same a (p + 128) v (omega (arith, la));
      third = get_set_other c (p + 128 + 128 + 128) (p + 128 + 128) v (λ e. omega (arith, e)) ∙ get_set_same b (p + 128 + 128) v (omega (arith, lb));
      fourth = get_set_same c (p + 128 + 128 + 128) v (omega (arith, lc));
    }

-- a group is one of the four, or of another class
pub by_class : (P : ℕ → Type 0) (p g : ℕ) → P p → P (p + 128) → P (p + 128 + 128) → P (p + 128 + 128 + 128) → (IsApart p g → P g) → P g
by_class P p g a b c d other = go (g == p) (g == p + 128) (g == p + 128 + 128) (g == p + 128 + 128 + 128) refl refl refl refl where
  go : (i j k l : Bool) → (g == p) ≡ i → (g == p + 128) ≡ j → (g == p + 128 + 128) ≡ k → (g == p + 128 + 128 + 128) ≡ l → P g
  go true j k l e f h m = subst P (sym (eqb-true g p e)) a
  go false true k l e f h m = subst P (sym (eqb-true g (p + 128) f)) b
  go false false true l e f h m = subst P (sym (eqb-true g (p + 128 + 128) h)) c
  go false false false true e f h m = subst P (sym (eqb-true g (p + 128 + 128 + 128) m)) d
  go false false false false e f h m =
      other (record {
        first = eqb-false g p e;
        second = eqb-false g (p + 128) f;
        third = eqb-false g (p + 128 + 128) h;
        fourth = eqb-false g (p + 128 + 128 + 128) m;
      })

-- ---- after so many classes have moved: no group is tagged, and each of another class is where it began
pub record Stands (number k : ℕ) (at : List CoreId) (tags : List (Option ℕ)) : Type 0 where
  pub places : length at ≡ 512
  pub marks : length tags ≡ 512
  pub untagged : (g : ℕ) → g < 512 → slice_get tags g ≡ Some None
  pub home : (g : ℕ) → g < 512 → ((j : ℕ) → j < k → class_behind number j ≢ g % 128) → slice_get at g ≡ Some (core (g % 128 % 4))

pub opening_stands : (number : ℕ) → Stands number 0 (opening_cores 4 512) (no_tags 512)
opening_stands number = record {
  places = cores_length 512;
  marks = tags_length 512;
  untagged = tags_at 512;
  home = λ g h apart. cores_at 512 g h;
}

pub moved_stands : (number k p line : ℕ) (to : CoreId) (at : List CoreId) (tags : List (Option ℕ)) → p ≡ class_behind number k → p < 128
    → Stands number k at tags → Stands number (suc k) (set_class at p to) (set_class (set_class tags p (Some line)) p None)
moved_stands number k p line to at tags is small s =
    let marked = class_length tags p (Some line) in
    let cleared = class_set (set_class tags p (Some line)) p None small (marked ∙ s.marks) in
    record {
      places = class_length at p to ∙ s.places;
      marks = class_length (set_class tags p (Some line)) p None ∙ marked ∙ s.marks;
      untagged = λ g h. by_class (λ x. slice_get (set_class (set_class tags p (Some line)) p None) x ≡ Some None) p g
          cleared.first cleared.second cleared.third cleared.fourth
          (λ apart. class_apart (set_class tags p (Some line)) p None g apart ∙ class_apart tags p (Some line) g apart ∙ s.untagged g h);
      home = λ g h others.
          let off : p ≢ g % 128 = λ e. others k (omega arith) (sym is ∙ e) in
          class_apart at p to g (record {
            first = λ e. off (omega (arith, e));
            second = λ e. off (omega (arith, e));
            third = λ e. off (omega (arith, e));
            fourth = λ e. off (omega (arith, e));
          })
          ∙ s.home g h (λ j less. others j (omega (arith, less)));
    }

-- ---- no tag is left
none_earlier : (tags : List (Option ℕ)) → ((g : ℕ) → g < length tags → slice_get tags g ≡ Some None) → fold earlier None tags ≡ None
none_earlier [] h = refl
none_earlier (Some line ∷ tags) h = absurd (let e : Some (Some line) ≡ Some None = h 0 (omega arith) in cc)
none_earlier (None ∷ tags) h = none_earlier tags (λ g less. h (suc g) (omega (arith, less)))

pub none_left : (number k : ℕ) (at : List CoreId) (tags : List (Option ℕ)) → Stands number k at tags → fold earlier None tags ≡ None
none_left number k at tags s = none_earlier tags (λ g less. s.untagged g (omega (arith, less, s.marks)))
