-- The number that lines tell of a turn.
use Rattle.std.proofs.Common.{◌≡◌, ℕ, zero, suc, ◌<◌, ◌⊎◌, inl, inr, refl, ap, ◌∙◌, Bool, true, false, List, [], ◌∷◌, get_or, length, map, arith}
use Rattle.std.specs.Prelude.{Contains, if◌then◌else◌, Option, Some, None}
use Rattle.std.specs.Cmp.{Equal-is}
use Rattle.std.proofs.lemmas.List.Elements.{Contains-append_right}
use Rattle.ix_playdef.specs.Replies.{Places}
use Rattle.ix_playdef.specs.declared.order.Reply.{Reply}
use Rattle.ix_places.specs.Told.{reply_with, same_turn, told_number, turn_cmp, turn_of}
use Rattle.ix_places.specs.declared.turn.Turn.{Turn}
use Rattle.ix_places.proofs.Turns.{turn-same, turn-tied}

pub tested : (s t : Turn) → same_turn s t ≡ true → s ≡ t
tested s t e = turn-same s t ((Equal-is (turn_cmp s t)).0 e)

pub tests : (s t : Turn) → s ≡ t → same_turn s t ≡ true
tests s t e = (Equal-is (turn_cmp s t)).1 (turn-tied s t e)

-- ## It is that of a reply in the turn, where there is one
pub record IsTold (ns : List ℕ) (xs : List Reply) (num : Reply → ℕ) (turn : Turn) : Type 0 where
  pub reply : Reply
  pub among : Contains xs reply
  pub given : turn_of reply.key ≡ turn
  pub told : told_number ns xs turn ≡ Some (num reply)

here : (num : Reply → ℕ) (x : Reply) (xs : List Reply) (turn : Turn) → same_turn (turn_of x.key) turn ≡ true → IsTold (map num (x ∷ xs)) (x ∷ xs) num turn
here num x xs turn e =
    record {
      reply = x;
      among = (0, omega arith, refl);
      given = tested (turn_of x.key) turn e;
      told = ap (λ (b : Bool). if b then Some (num x) else told_number (map num xs) xs turn) e;
    }

later : (num : Reply → ℕ) (x : Reply) (xs : List Reply) (turn : Turn) → same_turn (turn_of x.key) turn ≡ false → IsTold (map num xs) xs num turn → IsTold (map num (x ∷ xs)) (x ∷ xs) num turn
later num x xs turn e is =
    record {
      reply = is.reply;
      among = Contains-append_right (x ∷ []) xs is.reply is.among;
      given = is.given;
      told = ap (λ (b : Bool). if b then Some (num x) else told_number (map num xs) xs turn) e ∙ is.told;
    }

pub told-any : (num : Reply → ℕ) (xs : List Reply) (turn : Turn) → (told_number (map num xs) xs turn ≡ None) ⊎ IsTold (map num xs) xs num turn
told-any num [] turn = inl refl
told-any num (x ∷ xs) turn = by_test (same_turn (turn_of x.key) turn) refl (told-any num xs turn)
  where
    by_test : (b : Bool) → same_turn (turn_of x.key) turn ≡ b → (told_number (map num xs) xs turn ≡ None) ⊎ IsTold (map num xs) xs num turn
        → (told_number (map num (x ∷ xs)) (x ∷ xs) turn ≡ None) ⊎ IsTold (map num (x ∷ xs)) (x ∷ xs) num turn
    by_test true e rest = inr (here num x xs turn e)
    by_test false e (inl none) = inl (ap (λ (b : Bool). if b then Some (num x) else told_number (map num xs) xs turn) e ∙ none)
    by_test false e (inr is) = inr (later num x xs turn e is)

pub told-some : (num : Reply → ℕ) (xs : List Reply) (turn : Turn) (i : ℕ) (d : Reply) → i < length xs → turn_of (get_or xs i d).key ≡ turn → IsTold (map num xs) xs num turn
told-some num [] turn i d lt e = absurd (omega (arith, lt))
told-some num (x ∷ xs) turn zero d lt e = here num x xs turn (tests (turn_of x.key) turn e)
told-some num (x ∷ xs) turn (suc i) d lt e = by_test (same_turn (turn_of x.key) turn) refl (told-some num xs turn i d (omega (arith, lt)) e)
  where
    by_test : (b : Bool) → same_turn (turn_of x.key) turn ≡ b → IsTold (map num xs) xs num turn → IsTold (map num (x ∷ xs)) (x ∷ xs) num turn
    by_test true e rest = here num x xs turn e
    by_test false e rest = later num x xs turn e rest

pub told-given : (num : Reply → ℕ) (xs : List Reply) (turn : Turn) (x : Reply) → Contains xs x → turn_of x.key ≡ turn → IsTold (map num xs) xs num turn
told-given num xs turn x among e = told-some num xs turn among.0 x among.1 (ap (λ (y : Reply). turn_of y.key) among.2 ∙ e)

-- ## It is the same wherever the replies' connections stand
pub told-placed : (places : Places) (ns : List ℕ) (xs : List Reply) (turn : Turn) → told_number ns (map (reply_with places) xs) turn ≡ told_number ns xs turn
told-placed places [] [] turn = refl
told-placed places [] (x ∷ xs) turn = refl
told-placed places (n ∷ ns) [] turn = refl
told-placed places (n ∷ ns) (x ∷ xs) turn = ap (λ (o : Option ℕ). if same_turn (turn_of x.key) turn then Some n else o) (told-placed places ns xs turn)
