-- The first numbers of turns, reply by reply.
use Rattle.std.proofs.Common.{◌≡◌, ℕ, ◌+◌, ◌<◌, ◌≤◌, refl, sym, ap, ◌∙◌, Bool, true, false, List, [], ◌∷◌, ◌++◌, get_or, length, drop, take, map, arith}
use Rattle.std.specs.Prelude.{if◌then◌else◌, Option, Some, None}
use Rattle.std.specs.Map.{lookup}
use Rattle.std.specs.Option.{option_or}
use Rattle.std.specs.Ordering.{is_eq, nat_cmp, ordering_then}
use Rattle.std.specs.Option.{option_cmp}
use Rattle.std.proofs.lemmas.List.{drop_more, map-append, take_all, take_more}
use Rattle.ix_playdef.specs.Order.{wire_cmp}
use Rattle.ix_playdef.specs.declared.order.Reply.{Reply}
use Rattle.ix_places.specs.Told.{number_in, number_of_one, same_turn, told_number, turn_cmp, turn_of}
use Rattle.ix_places.specs.contracts.turn.TurnOrd.TheImpl as turn_ord
use Rattle.ix_places.specs.declared.turn.Turn.{Turn}
use Rattle.ix_places.proofs.Keys.{phase-same}
use Rattle.ix_places.proofs.ToldLaws.{tested, tests}

-- ## The order that is derived
pub cmp-same : (a b : Turn) → turn_ord.ghosts.cmp a b ≡ turn_cmp a b
cmp-same a b =
    ap (λ o. ordering_then (option_cmp wire_cmp a.entry b.entry) (ordering_then (nat_cmp a.group.0 b.group.0) (ordering_then o (nat_cmp a.opening b.opening))))
    (sym (phase-same a.phase b.phase))

pub lookup-turn : (es : List (Turn × ℕ)) (turn : Turn) → lookup (λ k. is_eq (turn_ord.ghosts.cmp turn k)) es ≡ number_in es turn
lookup-turn [] turn = refl
lookup-turn (e ∷ es) turn =
    ap (λ o. if is_eq o then Some e.1 else lookup (λ k. is_eq (turn_ord.ghosts.cmp turn k)) es) (cmp-same turn e.0)
    ∙ ap (λ (o : Option ℕ). if same_turn turn e.0 then Some e.1 else o) (lookup-turn es turn)

-- ## One more reply
or_none : (o : Option ℕ) → o ≡ option_or o None
or_none None = refl
or_none (Some n) = refl

pub kept-there : (old : Turn → Option ℕ) (turn : Turn) (known n : ℕ) → Some known ≡ old turn → (other : Turn) → old other ≡ option_or (old other) (number_of_one turn n other)
kept-there old turn known n there other = by_test (same_turn turn other) refl
  where
    by_test : (b : Bool) → same_turn turn other ≡ b → old other ≡ option_or (old other) (if b then Some n else None)
    by_test true e =
        let same : old other ≡ Some known = ap old (sym (tested turn other e)) ∙ sym there in
        same ∙ ap (λ o. option_or o (Some n)) (sym same)
    by_test false e = or_none (old other)

pub kept-new : (old new : Turn → Option ℕ) (turn : Turn) (n : ℕ) → old turn ≡ None → (other : Turn) → new other ≡ (if same_turn turn other then Some n else old other)
    → new other ≡ option_or (old other) (number_of_one turn n other)
kept-new old new turn n none other is = is ∙ by_test (same_turn turn other) refl
  where
    by_test : (b : Bool) → same_turn turn other ≡ b → (if b then Some n else old other) ≡ option_or (old other) (if b then Some n else None)
    by_test true e = ap (λ o. option_or o (Some n)) (sym (ap old (sym (tested turn other e)) ∙ none))
    by_test false e = or_none (old other)

-- ## A loop over replies
or-assoc : (a b c : Option ℕ) → option_or (option_or a b) c ≡ option_or a (option_or b c)
or-assoc None b c = refl
or-assoc (Some n) b c = refl

first-told : (n : ℕ) (x : Reply) (ns : List ℕ) (xs : List Reply) (turn : Turn) → told_number (n ∷ ns) (x ∷ xs) turn ≡ option_or (number_of_one (turn_of x.key) n turn) (told_number ns xs turn)
first-told n x ns xs turn = by_test (same_turn (turn_of x.key) turn)
  where
    by_test : (b : Bool) → (if b then Some n else told_number ns xs turn) ≡ option_or (if b then Some n else None) (told_number ns xs turn)
    by_test true = refl
    by_test false = refl

-- the first number of a reply's turn, ..
pub first-is : (ns : List ℕ) (xs : List Reply) (i : ℕ) (d : Reply) (old : Turn → Option ℕ) (first : ℕ) → i < length xs → length xs ≡ length ns → Some first ≡ option_or (old (turn_of (get_or xs i d).key)) (Some (get_or ns i 0))
    → ((turn : Turn) → option_or (old turn) (told_number (drop i ns) (drop i xs) turn) ≡ told_number ns xs turn) → told_number ns xs (turn_of (get_or xs i d).key) ≡ Some first
first-is ns xs i d old first lt long is so_far =
    let turn : Turn = turn_of (get_or xs i d).key in
    sym (so_far turn)
    ∙ ap (λ ms. option_or (old turn) (told_number ms (drop i xs) turn)) (drop_more ns i 0 (omega (arith, lt, long)))
    ∙ ap (λ ys. option_or (old turn) (told_number (get_or ns i 0 ∷ drop (i + 1) ns) ys turn)) (drop_more xs i d lt)
    ∙ ap (option_or (old turn))
    (first-told (get_or ns i 0) (get_or xs i d) (drop (i + 1) ns) (drop (i + 1) xs) turn
    ∙ ap (λ b. option_or (if b then Some (get_or ns i 0) else None) (told_number (drop (i + 1) ns) (drop (i + 1) xs) turn)) (tests turn turn refl))
    ∙ sym is

-- .. and what is known behind it
pub told-next : (ns : List ℕ) (xs : List Reply) (i : ℕ) (d : Reply) (old new : Turn → Option ℕ) → i < length xs → length xs ≡ length ns
    → ((turn : Turn) → new turn ≡ option_or (old turn) (number_of_one (turn_of (get_or xs i d).key) (get_or ns i 0) turn))
    → ((turn : Turn) → option_or (old turn) (told_number (drop i ns) (drop i xs) turn) ≡ told_number ns xs turn)
    → (turn : Turn) → option_or (new turn) (told_number (drop (i + 1) ns) (drop (i + 1) xs) turn) ≡ told_number ns xs turn
told-next ns xs i d old new lt long kept so_far turn =
    let rest : Option ℕ = told_number (drop (i + 1) ns) (drop (i + 1) xs) turn in
    ap (λ o. option_or o rest) (kept turn)
    ∙ or-assoc (old turn) (number_of_one (turn_of (get_or xs i d).key) (get_or ns i 0) turn) rest
    ∙ ap (option_or (old turn)) (sym (first-told (get_or ns i 0) (get_or xs i d) (drop (i + 1) ns) (drop (i + 1) xs) turn))
    ∙ ap (λ ys. option_or (old turn) (told_number (get_or ns i 0 ∷ drop (i + 1) ns) ys turn)) (sym (drop_more xs i d lt))
    ∙ ap (λ ms. option_or (old turn) (told_number ms (drop i xs) turn)) (sym (drop_more ns i 0 (omega (arith, lt, long))))
    ∙ so_far turn

pub map-one : {A B : Type 0} (f : A → B) (xs : List A) (i : ℕ) (d : A) (done : List B) (y : B) → i < length xs → done ≡ map f (take i xs) → y ≡ f (get_or xs i d) → done ++ y ∷ [] ≡ map f (take (i + 1) xs)
map-one f xs i d done y lt so_far is =
    ap (λ ys. ys ++ y ∷ []) so_far ∙ ap (λ z. map f (take i xs) ++ z ∷ []) is ∙ sym (ap (map f) (take_more xs i d lt) ∙ map-append f (take i xs) (get_or xs i d ∷ []))

pub map-end : {A B : Type 0} (f : A → B) (xs : List A) (i : ℕ) (done : List B) → length xs ≤ i → done ≡ map f (take i xs) → done ≡ map f xs
map-end f xs i done le so_far = so_far ∙ ap (map f) (take_all i xs le)

pub ruleset for_keys = (first-is, map-end)
