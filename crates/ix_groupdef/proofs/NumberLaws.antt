-- The order of flows tells apart what same_flow tells apart, and the first pair of a flow is kept.
use Rattle.std.proofs.Common.{◌≡◌, ◌<◌, ◌≤◌, ◌+◌, ℕ, refl, sym, ap, ◌∙◌, Bool, true, false, List, [], ◌∷◌, length, get_or, drop}
use Rattle.std.specs.Prelude.{if◌then◌else◌, ◌==◌, ◌&&◌, Option, Some, None, is_some}
use Rattle.std.specs.Option.{option_or}
use Rattle.std.specs.Map.{lookup}
use Rattle.std.specs.Cmp.{unsigned_tied}
use Rattle.std.specs.Ordering.{is_eq, nat_cmp, ordering_then}
use Rattle.std.specs.declared.cmp.Ordering.{Ordering}
use Rattle.std.specs.declared.cmp.Ordering.TheVariants.{Less, Equal, Greater}
use Rattle.std.proofs.lemmas.List.{drop_more, drop_all}
use Rattle.ix_base.specs.declared.id.Flow.{Flow}
use Rattle.ix_groupdef.specs.Flow.{same_flow}
use Rattle.ix_groupdef.specs.Setting.{isn_of, number_in}
use Rattle.ix_groupdef.proofs.OnePerFlow.{same-self, same-equal}

abbrev pub flow_cmp : Flow → Flow → Ordering
flow_cmp f g =
    ordering_then (nat_cmp f.remote g.remote)
    (ordering_then (nat_cmp f.local g.local) (ordering_then (nat_cmp f.remote_port g.remote_port) (nat_cmp f.local_port g.local_port)))

is_eq-then : (a b : Ordering) → is_eq (ordering_then a b) ≡ (is_eq a && is_eq b)
is_eq-then Less b = refl
is_eq-then Equal b = refl
is_eq-then Greater b = refl

regroup : (a b c d : Bool) → (a && (b && (c && d))) ≡ (a && b && c && d)
regroup true true c d = refl
regroup true false c d = refl
regroup false b c d = refl

pub is_eq-flow_cmp : (f g : Flow) → is_eq (flow_cmp f g) ≡ same_flow f g
is_eq-flow_cmp f g =
    is_eq-then (nat_cmp f.remote g.remote) _
    ∙ ap (λ b. is_eq (nat_cmp f.remote g.remote) && b) (is_eq-then (nat_cmp f.local g.local) _ ∙ ap (λ b. is_eq (nat_cmp f.local g.local) && b) (is_eq-then (nat_cmp f.remote_port g.remote_port) (nat_cmp f.local_port g.local_port)))
    ∙ ap (λ b. b && (is_eq (nat_cmp f.local g.local) && (is_eq (nat_cmp f.remote_port g.remote_port) && is_eq (nat_cmp f.local_port g.local_port)))) (unsigned_tied f.remote g.remote)
    ∙ ap (λ b. (f.remote == g.remote) && (b && (is_eq (nat_cmp f.remote_port g.remote_port) && is_eq (nat_cmp f.local_port g.local_port)))) (unsigned_tied f.local g.local)
    ∙ ap (λ b. (f.remote == g.remote) && ((f.local == g.local) && (b && is_eq (nat_cmp f.local_port g.local_port)))) (unsigned_tied f.remote_port g.remote_port)
    ∙ ap (λ b. (f.remote == g.remote) && ((f.local == g.local) && ((f.remote_port == g.remote_port) && b))) (unsigned_tied f.local_port g.local_port)
    ∙ regroup (f.remote == g.remote) (f.local == g.local) (f.remote_port == g.remote_port) (f.local_port == g.local_port)

pub lookup-flow_cmp : (es : List (Flow × ℕ)) (q : Flow) → lookup (λ k. is_eq (flow_cmp q k)) es ≡ number_in es q
lookup-flow_cmp [] q = refl
lookup-flow_cmp (e ∷ es) q =
    ap (λ (b : Bool). if b then Some e.1 else lookup (λ k. is_eq (flow_cmp q k)) es) (is_eq-flow_cmp q e.0)
    ∙ ap (λ (o : Option ℕ). if same_flow q e.0 then Some e.1 else o) (lookup-flow_cmp es q)

-- ## The first pair counts
or_none : (o : Option ℕ) → o ≡ option_or o None
or_none None = refl
or_none (Some n) = refl

or_more : (o p : Option ℕ) → is_some o ≡ true → o ≡ option_or o p
or_more None p e = absurd (cc)
or_more (Some n) p e = refl

-- a flow that has a number keeps it
pub kept-there : (es : List (Flow × ℕ)) (flow : Flow) (n : ℕ) (q : Flow) → is_some (number_in es flow) ≡ true
    → number_in es q ≡ option_or (number_in es q) (if same_flow q flow then Some n else None)
kept-there es flow n q there = by_case (same_flow q flow) refl
  where
    by_case : (b : Bool) → same_flow q flow ≡ b → number_in es q ≡ option_or (number_in es q) (if b then Some n else None)
    by_case true e = or_more (number_in es q) (Some n) (ap (λ f. is_some (number_in es f)) (same-equal q flow e) ∙ there)
    by_case false e = or_none (number_in es q)

none_there : (o : Option ℕ) → is_some o ≡ false → o ≡ None
none_there None e = refl
none_there (Some n) e = absurd (cc)

same-sym : (f g : Flow) → same_flow f g ≡ same_flow g f
same-sym f g = by_case (same_flow f g) (same_flow g f) refl refl
  where
    by_case : (a b : Bool) → same_flow f g ≡ a → same_flow g f ≡ b → a ≡ b
    by_case true true p q = refl
    by_case false false p q = refl
    by_case true false p q = let e : same_flow g f ≡ true = ap (λ h. same_flow g h) (same-equal f g p) ∙ same-self g in absurd (cc)
    by_case false true p q = let e : same_flow f g ≡ true = ap (λ h. same_flow f h) (same-equal g f q) ∙ same-self f in absurd (cc)

pub kept-new : (old new : List (Flow × ℕ)) (flow : Flow) (n : ℕ) (q : Flow) → is_some (number_in old flow) ≡ false → number_in new q ≡ (if same_flow flow q then Some n else number_in old q)
    → number_in new q ≡ option_or (number_in old q) (if same_flow q flow then Some n else None)
kept-new old new flow n q none is = is ∙ ap (λ (b : Bool). if b then Some n else number_in old q) (same-sym flow q) ∙ by_case (same_flow q flow) refl
  where
    by_case : (b : Bool) → same_flow q flow ≡ b → (if b then Some n else number_in old q) ≡ option_or (number_in old q) (if b then Some n else None)
    by_case true e = ap (λ o. option_or o (Some n)) (sym (ap (number_in old) (same-equal q flow e) ∙ none_there (number_in old flow) none))
    by_case false e = or_none (number_in old q)

or-assoc : (a b c : Option ℕ) → option_or (option_or a b) c ≡ option_or a (option_or b c)
or-assoc None b c = refl
or-assoc (Some n) b c = refl

first_isn : (q : Flow) (p : Flow × ℕ) (ps : List (Flow × ℕ)) → isn_of q (p ∷ ps) ≡ option_or (if same_flow q p.0 then Some p.1 else None) (isn_of q ps)
first_isn q p ps = by_case (same_flow q p.0)
  where
    by_case : (b : Bool) → (if b then Some p.1 else isn_of q ps) ≡ option_or (if b then Some p.1 else None) (isn_of q ps)
    by_case true = refl
    by_case false = refl

pub pairs-next : (q : Flow) (old new : List (Flow × ℕ)) (ps : List (Flow × ℕ)) (i : ℕ) (d : Flow × ℕ) → i < length ps
    → number_in new q ≡ option_or (number_in old q) (if same_flow q (get_or ps i d).0 then Some (get_or ps i d).1 else None)
    → option_or (number_in old q) (isn_of q (drop i ps)) ≡ isn_of q ps → option_or (number_in new q) (isn_of q (drop (i + 1) ps)) ≡ isn_of q ps
pairs-next q old new ps i d h is so_far =
    let p : Flow × ℕ = get_or ps i d in
    ap (λ o. option_or o (isn_of q (drop (i + 1) ps))) is
    ∙ or-assoc (number_in old q) (if same_flow q p.0 then Some p.1 else None) (isn_of q (drop (i + 1) ps))
    ∙ ap (option_or (number_in old q)) (sym (first_isn q p (drop (i + 1) ps)) ∙ ap (isn_of q) (sym (drop_more ps i d h))) ∙ so_far

pub pairs-none : (q : Flow) (new : List (Flow × ℕ)) (ps : List (Flow × ℕ)) (i : ℕ) → length ps ≤ i → option_or (number_in new q) (isn_of q (drop i ps)) ≡ isn_of q ps → number_in new q ≡ isn_of q ps
pairs-none q new ps i h so_far = or_none (number_in new q) ∙ ap (λ xs. option_or (number_in new q) (isn_of q xs)) (sym (drop_all i ps h)) ∙ so_far

pub pairs-first : (q : Flow) (new : List (Flow × ℕ)) (ps : List (Flow × ℕ)) → number_in new q ≡ None → option_or (number_in new q) (isn_of q ps) ≡ isn_of q ps
pairs-first q new ps none = ap (λ o. option_or o (isn_of q ps)) none

pub ruleset for_pairs = (pairs-next, pairs-none, pairs-first)
