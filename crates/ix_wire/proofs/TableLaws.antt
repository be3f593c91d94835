-- The definitions of a table, one step at a time.
use Rattle.std.proofs.Common.{◌≡◌, ℕ, suc, ◌+◌, ◌-◌, ◌*◌, ◌%◌, ◌<◌, ◌≤◌, [], ◌∷◌, ◌++◌, refl, ap, ◌∙◌, arith, true, false, None}
use Rattle.std.specs.Prelude.{◌==◌, ◌&&◌, ◌||◌, not}
use Rattle.ix_wire.specs.Table.{Standing, groups_from, has_tagged_on, is_live_core, is_on, is_only_live, is_tagged, no_tags, opening_cores}

pub opening_cores-none : (live : ℕ) → opening_cores live 0 ≡ []
unfolding opening_cores
opening_cores-none live = refl

pub opening_cores-more : (live n : ℕ) → opening_cores live (n + 1) ≡ opening_cores live n ++ record { 0 = n % 128 % live } ∷ []
unfolding opening_cores
opening_cores-more live n = ap (opening_cores live) (let e : n + 1 ≡ suc n = omega arith in e)

pub ruleset opening_steps = (opening_cores-none, opening_cores-more)

pub no_tags-none : no_tags 0 ≡ []
unfolding no_tags
no_tags-none = refl

pub no_tags-more : (n : ℕ) → no_tags (n + 1) ≡ no_tags n ++ None ∷ []
unfolding no_tags
no_tags-more n = ap no_tags (let e : n + 1 ≡ suc n = omega arith in e)

pub ruleset no_tag_steps = (no_tags-none, no_tags-more)

-- the groups of a number that are left after some of them
pub groups_from-more : (place k width : ℕ) → k < width
    → groups_from (place + 128 * k) (width - k) ≡ (place + 128 * k) ∷ groups_from (place + 128 * (k + 1)) (width - (k + 1))
groups_from-more place k width h =
    ap (groups_from (place + 128 * k)) (let e : width - k ≡ suc (width - (k + 1)) = omega arith in e)
    ∙ ap (λ next. (place + 128 * k) ∷ groups_from next (width - (k + 1))) (let e : place + 128 * k + 128 ≡ place + 128 * (k + 1) = omega arith in e)

pub groups_from-end : (place k width : ℕ) → width ≤ k → groups_from (place + 128 * k) (width - k) ≡ []
groups_from-end place k width h = ap (groups_from (place + 128 * k)) (let e : width - k ≡ 0 = omega arith in e)

pub groups_from-start : (place width : ℕ) → groups_from (place + 128 * 0) (width - 0) ≡ groups_from place width
groups_from-start place width =
    ap (λ at. groups_from at (width - 0)) (let e : place + 128 * 0 ≡ place = omega arith in e)
    ∙ ap (groups_from place) (let e : width - 0 ≡ width = omega arith in e)

pub ruleset group_steps = (groups_from-more, groups_from-end, groups_from-start)

pub has_tagged_on-none : (t : Standing) (core : ℕ) → has_tagged_on t core 0 ≡ false
unfolding has_tagged_on
has_tagged_on-none t core = refl

pub has_tagged_on-more : (t : Standing) (core n : ℕ)
    → has_tagged_on t core (n + 1) ≡ (has_tagged_on t core n || (is_on t core n && is_tagged t n))
unfolding has_tagged_on
has_tagged_on-more t core n = ap (has_tagged_on t core) (let e : n + 1 ≡ suc n = omega arith in e)

pub ruleset tagged_on_steps = (has_tagged_on-none, has_tagged_on-more)

pub is_only_live-none : (t : Standing) (core : ℕ) → is_only_live t core 0 ≡ true
unfolding is_only_live
is_only_live-none t core = refl

pub is_only_live-more : (t : Standing) (core n : ℕ)
    → is_only_live t core (n + 1) ≡ (is_only_live t core n && ((n == core) || not (is_live_core n t)))
unfolding is_only_live
is_only_live-more t core n = ap (is_only_live t core) (let e : n + 1 ≡ suc n = omega arith in e)

pub ruleset only_live_steps = (is_only_live-none, is_only_live-more)
