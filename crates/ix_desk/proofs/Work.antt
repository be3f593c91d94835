-- What is left to step.
use Rattle.std.proofs.Common.{◌≡◌, ℕ, zero, suc, ◌-◌, ◌<◌, ◌≤◌, Bool, true, false, not, List, [], ◌∷◌, ◌++◌, count_by, refl, sym, ap, ◌∙◌, arith}
use Rattle.std.specs.Prelude.{◌&&◌, ◌||◌, if◌then◌else◌, Option, Some, None, is_some}
use Rattle.std.specs.List.{list_any}
use Rattle.std.proofs.lemmas.Grind.{common_steps}
use Rattle.ix_desk.specs.Views.{Piece, Group}
use Rattle.ix_desk.specs.Pieces.{is_nil, ready, piece_has_work}
use Rattle.ix_desk.specs.Groups.{cut_has_work, current_has_work, group_has_work}
use Rattle.ix_desk.specs.Steps.{up_to, leave, EachWorked, batch, piece_leaves, cut_leaves, current_leaves, group_leaves, UnitStepped, PieceWorked, CutWorked, CurrentWorked, GroupWorked}
use Rattle.ix_desk.proofs.Each.{leave-most, group-most, current-most}

pub is_nil-append : {X : Type 0} (xs ys : List X) → is_nil (xs ++ ys) ≡ (is_nil xs && is_nil ys)
is_nil-append [] ys = refl
is_nil-append (x ∷ xs) ys = refl

pub ruleset work_laws = (is_nil-append)

-- where the budget isn't used up, all was taken
up_to-whole : {I : Type 0} (counted : I → Bool) (b : ℕ) (xs : List I) → 0 < b - count_by counted (up_to counted b xs) → up_to counted b xs ≡ xs
up_to-whole counted zero xs p = absurd (omega arith)
up_to-whole counted (suc b) [] p = refl
up_to-whole counted (suc b) (x ∷ xs) p =
    ap (λ zs. x ∷ zs) (elim (counted x) as (λ c. counted x ≡ c → 0 < suc b - count_by counted (x ∷ up_to counted (if c then b else suc b) xs) → up_to counted (if c then b else suc b) xs ≡ xs) [
      | true ↦ λ c q. up_to-whole counted b xs (grind (arith, common_steps))
      | false ↦ λ c q. up_to-whole counted (suc b) xs (grind (arith, common_steps))
    ] refl p)

-- nothing is left behind all
nothing-behind : {X : Type 0} (xs ys : List X) → xs ≡ xs ++ ys → ys ≡ []
nothing-behind [] ys e = sym e
nothing-behind (x ∷ xs) ys e = nothing-behind xs ys (cc)

and-false : (a : Bool) → (a && false) ≡ false
and-false true = refl
and-false false = refl

module _ {U I E : Type 0} (counted : I → Bool) (name : I → ℕ) (stepped : U → List (ℕ × ℕ)) (advanced : U → E → ℕ → List I → U → Type 0) (env : E) (core : ℕ) where
  rests : (here : Bool) (b : ℕ) (old new : List I) → old ≡ (if here then up_to counted b old else []) ++ new
      → 0 < b - count_by counted (if here then up_to counted b old else []) → here ≡ true → new ≡ []
  rests true b old new e less at = let whole = up_to-whole counted b old less in nothing-behind old new (e ∙ ap (λ zs. zs ++ new) whole)
  rests false b old new e less at = absurd (cc)

  stays : (items : List I) (x y : Option U) → items ≡ [] → UnitStepped counted name stepped advanced env core items x y → y ≡ x
  stays [] x y none s = s
  stays (i ∷ items) x y none s = absurd (cc)

  -- a piece that leaves something of the budget has nothing left to step
  piece-rests : (b : ℕ) (x y : Piece U I) → PieceWorked counted name stepped advanced env core b x y → 0 < piece_leaves counted b x → piece_has_work y ≡ false
  piece-rests b x y w less =
      elim (is_some x.unit) as (λ q. is_some x.unit ≡ q → piece_has_work y ≡ false) [
        | true ↦ λ q. (
            let none : ready y ≡ [] = rests (is_some x.unit) b (ready x) (ready y) w.waited less q in
            ap (λ zs. is_some y.unit && not (is_nil zs)) none ∙ and-false (is_some y.unit))
        | false ↦ λ q. (
            let empty : batch counted b x ≡ [] = ap (λ h. if h then up_to counted b (ready x) else []) q in
            let same : y.unit ≡ x.unit = stays (batch counted b x) x.unit y.unit empty w.unit in
            ap (λ h. h && not (is_nil (ready y))) (ap (λ u. is_some u) same ∙ q))
      ] refl

  current-rests : (b : ℕ) (x y : Option (Piece U I)) → CurrentWorked counted name stepped advanced env core b x y → 0 < current_leaves counted b x → current_has_work y ≡ false
  current-rests b None None w less = refl
  current-rests b (Some p) (Some q) w less = piece-rests b p q w less
  current-rests b None (Some q) w less = absurd w
  current-rests b (Some p) None w less = absurd w

-- each of a list that leaves something of the budget has nothing left to step
each-rests : {X : Type 0} (leaves : ℕ → X → ℕ) (Worked : ℕ → X → X → Type 0) (work : X → Bool)
    → ((b : ℕ) (x : X) → leaves b x ≤ b) → ((b : ℕ) (x y : X) → Worked b x y → 0 < leaves b x → work y ≡ false)
    → (b : ℕ) (xs ys : List X) → EachWorked leaves Worked b xs ys → 0 < leave leaves b xs → list_any work ys ≡ false
each-rests leaves Worked work most one b [] [] w less = refl
each-rests leaves Worked work most one b (x ∷ xs) (y ∷ ys) w less =
    let later = leave-most leaves most (leaves b x) xs in
    let first = one b x y w.0 (omega (arith, later, less)) in
    let rest = each-rests leaves Worked work most one (leaves b x) xs ys w.1 less in
    ap (λ h. h || list_any work ys) first ∙ rest
each-rests leaves Worked work most one b [] (y ∷ ys) w less = absurd w
each-rests leaves Worked work most one b (x ∷ xs) [] w less = absurd w

module _ {U I E : Type 0} (counted : I → Bool) (name : I → ℕ) (stepped : U → List (ℕ × ℕ)) (advanced : U → E → ℕ → List I → U → Type 0) (env : E) (core : ℕ) where
  group-rests : (b : ℕ) (x y : Group U I) → GroupWorked counted name stepped advanced env core b x y → 0 < group_leaves counted b x → group_has_work y ≡ false
  group-rests b x y w less =
      let left = leave (cut_leaves counted) b x.cut in
      let most = current-most counted left x.current in
      let cut = each-rests (cut_leaves {U = U} counted) (CutWorked counted name stepped advanced env core) cut_has_work
      (λ n c. let here : cut_leaves counted n c ≤ n = omega arith in here)
      (λ n c d v l. piece-rests counted name stepped advanced env core n c.piece d.piece v.piece l)
      b x.cut y.cut w.cut (omega (arith, most, less)) in
      let current = current-rests counted name stepped advanced env core left x.current y.current w.current less in
      ap (λ h. h || current_has_work y.current) cut ∙ current

  -- work that leaves something of its bound leaves nothing to step
  pub all-rest : (b : ℕ) (x y : List (Group U I)) → EachWorked (group_leaves counted) (GroupWorked counted name stepped advanced env core) b x y
      → 0 < leave (group_leaves counted) b x → list_any group_has_work y ≡ false
  all-rest b x y w less =
      each-rests (group_leaves counted) (GroupWorked counted name stepped advanced env core) group_has_work (group-most counted) (λ n g h v l. group-rests n g h v l) b x y w less
