-- Before any frame came no stack owns a buffer, whatever connects were made.
use Rattle.std.proofs.Common.{◌≡◌, ◌<◌, ◌+◌, ℕ, zero, suc, Bool, true, false, List, [], ◌∷◌, Option, Some, None, is_some, true≢false, inl, inr, length, length-set, get_or, set, sum_by, refl, sym, ap, subst, ◌∙◌, arith}
use Rattle.std.specs.Prelude.{if◌then◌else◌}
use Rattle.std.proofs.lemmas.Bool.{cases_lt}
use Rattle.std.proofs.lemmas.List.{get_or_default, get_or_past}
use Rattle.std.proofs.lemmas.List.Sums.{sum_by-cons}
use Rattle.ix_base.specs.declared.segment.Ret.{Ret}
use Rattle.ix_mbuf.specs.Buffers.{Buffer}
use Rattle.ix_mbuf.specs.declared.name.Name.{Name}
use Rattle.ix_hash.specs.Group.{group_of_flow}
use Rattle.ix_desk.specs.Desks.{group_at}
use Rattle.ix_desk.specs.Groups.{at_home, changed, empty, unit_of}
use Rattle.ix_desk.specs.Views.{Group, View}
use Rattle.ix_stack.specs.declared.work.Work.{Work}
use Rattle.ix_appdef.specs.declared.application.Application.{Application}
use Rattle.ix_groupdef.specs.declared.env.Env.{Env}
use Rattle.ix_core.specs.Connecting.{no_neighbour, no_port, opened}
use Rattle.ix_core.specs.Links.{IsDrained}
use Rattle.ix_core.specs.Weights.{desks_weight, group_weight}
use Rattle.ix_plainstack.specs.Owning.{Buffered, buffered_weight, no_buffers}
use Rattle.ix_plainstack.specs.Stack.{Drains, Stack, empty_stack, stack_weight, with_buffers}
use Rattle.ix_plainstack.specs.Stack as stacks
use Rattle.ix_dials.specs.Dials.{Dials, StackConnects, StackCore}
use Rattle.ix_homes.specs.Homes.{IsLevel}

-- The stack of a group is at home here, and owns no buffer; or there is none.
pub data IsBare (x : Group Stack Work) : Type 0 where
  seated : (u : Stack) → x ≡ at_home u → u.owning.buffers ≡ no_buffers → IsBare x
  unseated : x ≡ empty → IsBare x

abbrev pub AreBare : View Stack Work → Type 0
AreBare v = (g : ℕ) → IsBare (group_at v g)

-- the stack that is here, or a new one
abbrev pub stack_in : Option Stack → Stack
stack_in None = empty_stack
stack_in (Some u) = u

-- ## One group
none-here : (u : Stack) (o : Option Stack) → o ≡ None → o ≡ Some u → ⊥
none-here u o none some = true≢false (sym (ap is_some some) ∙ ap is_some none)

changed-home : (u left : Stack) (x : Group Stack Work) → x ≡ at_home u → changed x left ≡ at_home left
unfolding changed
changed-home u left x is = ap (λ (z : Group Stack Work). changed z left) is

bare-changed : (x : Group Stack Work) (u left : Stack) → IsBare x → unit_of x ≡ Some u → left.owning.buffers ≡ u.owning.buffers → IsBare (changed x left)
bare-changed x u left (seated v is none) there same =
    let own : v ≡ u = ap stack_in (sym (ap unit_of is) ∙ there) in
    seated left (changed-home v left x is) (same ∙ ap (λ (z : Stack). z.owning.buffers) (sym own) ∙ none)
bare-changed x u left (unseated is) there same = absurd (none-here u (unit_of x) (ap unit_of is) there)

bare-set : (xs : List (Group Stack Work)) (i j : ℕ) (a : Group Stack Work) → IsBare a → IsBare (get_or xs j empty) → IsBare (get_or (set xs i a) j empty)
bare-set [] i j a new old = old
bare-set (x ∷ xs) zero zero a new old = new
bare-set (x ∷ xs) zero (suc j) a new old = old
bare-set (x ∷ xs) (suc i) zero a new old = old
bare-set (x ∷ xs) (suc i) (suc j) a new old = bare-set xs i j a new old

pub bare-home : (b : Bool) (x : Group Stack Work) → x ≡ (if b then at_home empty_stack else empty) → IsBare x
bare-home true x is = seated empty_stack is refl
bare-home false x is = unseated is

-- ## Connects
connect-keeps : (env : Env Application) (cookie : ℕ) (peer : ℕ × ℕ) (ret : Ret) (x y : StackCore) → AreBare x.desks → StackConnects env cookie peer ret x y → AreBare y.desks
connect-keeps env cookie peer ret x y bare (no_neighbour other answer same) = subst (λ (z : StackCore). AreBare z.desks) (sym same) bare
connect-keeps env cookie peer ret x y bare (no_port near none answer same) = subst (λ (z : StackCore). AreBare z.desks) (sym same) bare
connect-keeps env cookie peer ret x y bare (opened near opens) =
    let at = opens.opens in
    let connects : stacks.Connects at.unit env x.pool.home.0 opens.flow ret at.left = at.opens in
    let kept : at.left.owning.buffers ≡ at.unit.owning.buffers = ap (λ (z : Stack). z.owning.buffers) connects.rest in
    let g : ℕ = group_of_flow opens.flow in
    subst AreBare (sym at.over) (λ h. bare-set x.desks.groups g h (changed (group_at x.desks g) at.left) (bare-changed (group_at x.desks g) at.unit at.left (bare g) at.here kept) (bare h))

pub dials-keep : (env : Env Application) (cookie : ℕ) (peers : List (ℕ × ℕ)) (rets : List Ret) (x y : StackCore) → Dials env cookie peers rets x y → AreBare x.desks → AreBare y.desks
dials-keep env cookie [] [] x y dials bare = subst (λ (z : StackCore). AreBare z.desks) (sym dials) bare
dials-keep env cookie [] (ret ∷ rets) x y dials bare = absurd dials
dials-keep env cookie (peer ∷ peers) [] x y dials bare = absurd dials
dials-keep env cookie (peer ∷ peers) (ret ∷ rets) x y dials bare =
    dials-keep env (suc cookie) peers rets dials.0 y dials.1.1 (connect-keeps env cookie peer ret x dials.0 bare dials.1.0)

-- Nothing but the desks changes.
connect-rests : (env : Env Application) (cookie : ℕ) (peer : ℕ × ℕ) (ret : Ret) (x y : StackCore) → StackConnects env cookie peer ret x y → y ≡ record x { desks = y.desks }
connect-rests env cookie peer ret x y (no_neighbour other answer same) = subst (λ (z : StackCore). z ≡ record x { desks = z.desks }) (sym same) refl
connect-rests env cookie peer ret x y (no_port near none answer same) = subst (λ (z : StackCore). z ≡ record x { desks = z.desks }) (sym same) refl
connect-rests env cookie peer ret x y (opened near opens) = opens.rest

pub dials-rest : (env : Env Application) (cookie : ℕ) (peers : List (ℕ × ℕ)) (rets : List Ret) (x y : StackCore) → Dials env cookie peers rets x y → y ≡ record x { desks = y.desks }
dials-rest env cookie [] [] x y dials = subst (λ (z : StackCore). z ≡ record x { desks = z.desks }) (sym dials) refl
dials-rest env cookie [] (ret ∷ rets) x y dials = absurd dials
dials-rest env cookie (peer ∷ peers) [] x y dials = absurd dials
dials-rest env cookie (peer ∷ peers) (ret ∷ rets) x y dials =
    dials-rest env (suc cookie) peers rets dials.0 y dials.1.1 ∙ ap (λ (z : StackCore). record z { desks = y.desks }) (connect-rests env cookie peer ret x dials.0 dials.1.0)

-- The desks are of the same core, and as many.
pub record SameDesks (old new : View Stack Work) : Type 0 where
  pub core : new.core ≡ old.core
  pub size : length new.groups ≡ length old.groups

same-desks : (x y : StackCore) → y ≡ x → SameDesks x.desks y.desks
same-desks x y same = record { core = ap (λ (z : StackCore). z.desks.core) same; size = ap (λ (z : StackCore). length z.desks.groups) same }

connect-same : (env : Env Application) (cookie : ℕ) (peer : ℕ × ℕ) (ret : Ret) (x y : StackCore) → StackConnects env cookie peer ret x y → SameDesks x.desks y.desks
connect-same env cookie peer ret x y (no_neighbour other answer same) = same-desks x y same
connect-same env cookie peer ret x y (no_port near none answer same) = same-desks x y same
connect-same env cookie peer ret x y (opened near opens) =
    let at = opens.opens in
    let g : ℕ = group_of_flow opens.flow in
    record {
      core = ap (λ (v : View Stack Work). v.core) at.over;
      size = ap (λ (v : View Stack Work). length v.groups) at.over ∙ length-set x.desks.groups g (changed (group_at x.desks g) at.left);
    }

pub dials-same : (env : Env Application) (cookie : ℕ) (peers : List (ℕ × ℕ)) (rets : List Ret) (x y : StackCore) → Dials env cookie peers rets x y → SameDesks x.desks y.desks
dials-same env cookie [] [] x y dials = same-desks x y dials
dials-same env cookie [] (ret ∷ rets) x y dials = absurd dials
dials-same env cookie (peer ∷ peers) [] x y dials = absurd dials
dials-same env cookie (peer ∷ peers) (ret ∷ rets) x y dials =
    let one = connect-same env cookie peer ret x dials.0 dials.1.0 in
    let rest = dials-same env (suc cookie) peers rets dials.0 y dials.1.1 in
    record { core = rest.core ∙ one.core; size = rest.size ∙ one.size }

-- ## Weights
stack-weighs : (f : Name → ℕ) (u : Stack) → u.owning.buffers ≡ no_buffers → stack_weight f u ≡ 0
stack-weighs f u none = ap (buffered_weight f) none

bare-weighs : (f : Name → ℕ) (x : Group Stack Work) → IsBare x → group_weight (stack_weight f) f x ≡ 0
bare-weighs f x (seated u is none) =
    let w : ℕ = stack_weight f u in
    let all : group_weight (stack_weight f) f (at_home u) ≡ 0 + ((w + (0 + (0 + 0))) + 0) = refl in
    ap (group_weight (stack_weight f) f) is ∙ omega (arith, all, stack-weighs f u none)
bare-weighs f x (unseated is) = ap (group_weight (stack_weight f) f) is

sums-none : {X : Type 0} (w : X → ℕ) (xs : List X) → ((k : ℕ) (d : X) → k < length xs → w (get_or xs k d) ≡ 0) → sum_by w xs ≡ 0
sums-none w [] each = refl
sums-none w (x ∷ xs) each = omega (arith, sum_by-cons w x xs, each 0 x (omega arith), sums-none w xs (λ k d lt. each (suc k) d (omega (arith, lt))))

pub desks-weigh : (f : Name → ℕ) (v : View Stack Work) → AreBare v → desks_weight (stack_weight f) f v ≡ 0
desks-weigh f v bare =
    sums-none (group_weight (stack_weight f) f) v.groups (λ k d lt. ap (group_weight (stack_weight f) f) (get_or_default v.groups k d empty lt) ∙ bare-weighs f (group_at v k) (bare k))

-- ## Levels
bare-cut : (x : Group Stack Work) → IsBare x → x.cut ≡ []
bare-cut x (seated u is none) = ap (λ (z : Group Stack Work). z.cut) is
bare-cut x (unseated is) = ap (λ (z : Group Stack Work). z.cut) is

bare-early : (x : Group Stack Work) → IsBare x → x.early ≡ []
bare-early x (seated u is none) = ap (λ (z : Group Stack Work). z.early) is
bare-early x (unseated is) = ap (λ (z : Group Stack Work). z.early) is

drained : (u : Stack) → u.owning.buffers.freed ≡ [] → IsDrained Drains u
drained u none = record {
  before = u;
  bufs = [];
  so = record { given = sym none; rest = ap (λ (bufs : List Buffer). with_buffers u (record u.owning.buffers { freed = bufs })) none };
}

bare-clean : (x : Group Stack Work) (u : Stack) → IsBare x → unit_of x ≡ Some u → IsDrained Drains u
bare-clean x u (seated v is none) there =
    let own : v ≡ u = ap stack_in (sym (ap unit_of is) ∙ there) in
    subst (IsDrained Drains) own (drained v (ap (λ (z : Buffered). z.freed) none))
bare-clean x u (unseated is) there = absurd (none-here u (unit_of x) (ap unit_of is) there)

pub bare-level : (v : View Stack Work) → length v.groups ≡ 512 → AreBare v → IsLevel Drains v
bare-level v size bare = record {
  size = size;
  cut = λ g lt. bare-cut (group_at v g) (bare g);
  early = λ g lt. bare-early (group_at v g) (bare g);
  clean = λ g u lt there. bare-clean (group_at v g) u (bare g) there;
}

-- desks whose groups are at home with new stacks, or not there
pub bare-desks : (v : View Stack Work) (home : ℕ → Bool) → length v.groups ≡ 512 → ((g : ℕ) → g < 512 → group_at v g ≡ (if home g then at_home empty_stack else empty)) → AreBare v
bare-desks v home size each g =
    elim (cases_lt g 512) [
      | inl within ↦ bare-home (home g) (group_at v g) (each g within)
      | inr past ↦ unseated (get_or_past v.groups g empty (omega (arith, past, size)))
    ]

-- ## Which stack is there
pub stack-is : (b : Bool) (x : Group Stack Work) (u : Stack) → x ≡ (if b then at_home u else empty) → (b ≡ false → u ≡ empty_stack) → stack_in (unit_of x) ≡ u
stack-is true x u is other = ap (λ (z : Group Stack Work). stack_in (unit_of z)) is
stack-is false x u is other = ap (λ (z : Group Stack Work). stack_in (unit_of z)) is ∙ sym (other refl)
