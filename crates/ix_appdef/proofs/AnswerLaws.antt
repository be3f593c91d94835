-- Answers over whole streams.
use Rattle.std.proofs.Common.{◌≡◌, ℕ, ◌+◌, ◌<◌, refl, sym, ap, ◌∙◌, subst, Bool, true, false, List, [], ◌∷◌, ◌++◌, length, get_or, drop, append_assoc, append-nil, ◌≤◌, arith}
use Rattle.std.specs.Prelude.{◌==◌, if◌then◌else◌}
use Rattle.std.proofs.lemmas.Bool.Decides.{nat_tests}
use Rattle.std.proofs.lemmas.List.{drop_more, drop_all}
use Rattle.ix_base.specs.Prefix.{IsPrefix, prefix_nil, prefix_refl, prefix_append, prefix_behind}
use Rattle.ix_appdef.specs.declared.application.Application.{Application}
use Rattle.ix_appdef.specs.declared.application.Application.TheVariants as applications
use Rattle.ix_appdef.specs.declared.store.Entry.{Entry}
use Rattle.ix_appdef.specs.Store.{Outcome}
use Rattle.ix_appdef.specs.declared.key_value.Session.{Session}
use Rattle.ix_appdef.specs.KeyValue.{outcome_of, answers_from, answers_with}
use Rattle.ix_appdef.specs.Answers.{Grows, AnswersGrow, NothingFirst, push_answer}

-- ## One more byte
abbrev one_more : List Entry → List ℕ → ℕ → List ℕ → Bool → List ℕ
one_more store line b bs ends =
    if ends
    then (outcome_of line store).answer ++ answers_from (outcome_of line store).store [] bs
    else answers_from store (line ++ b ∷ []) bs

answers-cons : (store : List Entry) (line : List ℕ) (b : ℕ) (bs : List ℕ) → answers_from store line (b ∷ bs) ≡ one_more store line b bs (b == 0x0a)
unfolding answers_from
answers-cons store line b bs = refl

-- a line feed ends a line, and another byte joins it
pub answers-line : (store : List Entry) (line answer : List ℕ) (b : ℕ) (bs : List ℕ) → b ≡ 0x0a
    → answer ++ answers_from store line (b ∷ bs) ≡ (answer ++ (outcome_of line store).answer) ++ answers_from (outcome_of line store).store [] bs
answers-line store line answer b bs e =
    let ends : (b == 0x0a) ≡ true = grind (arith, nat_tests) in
    ap (λ xs. answer ++ xs) (answers-cons store line b bs ∙ ap (one_more store line b bs) ends)
    ∙ sym (append_assoc answer (outcome_of line store).answer (answers_from (outcome_of line store).store [] bs))

pub answers-byte : (store : List Entry) (line : List ℕ) (b : ℕ) (bs : List ℕ) → (b ≡ 0x0a → ⊥) → answers_from store line (b ∷ bs) ≡ answers_from store (line ++ b ∷ []) bs
answers-byte store line b bs e =
    let goes_on : (b == 0x0a) ≡ false = grind (arith, nat_tests) in
    answers-cons store line b bs ∙ ap (one_more store line b bs) goes_on

-- bytes behind the last line feed are not answered
pub answers-none : (s : Session) (told : List ℕ) (n : ℕ) → length told ≤ n → answers_with s (drop n told) ≡ s.answer
unfolding answers_from
answers-none s told n h = ap (answers_with s) (drop_all n told h) ∙ append-nil s.answer

pub answers-next : (s : Session) (told : List ℕ) (i : ℕ) → i < length told → answers_with s (drop i told) ≡ answers_with s (get_or told i 0 ∷ drop (i + 1) told)
answers-next s told i h = ap (answers_with s) (drop_more told i 0 h)

-- ## What is told only adds to the answer
answers-grow : (store : List Entry) (line told more : List ℕ) → IsPrefix (answers_from store line told) (answers_from store line (told ++ more))
unfolding answers_from
answers-grow store line [] more = prefix_nil (answers_from store line more)
answers-grow store line (b ∷ bs) more =
    by_case (b == 0x0a)
    (prefix_behind (outcome_of line store).answer _ _ (answers-grow (outcome_of line store).store [] bs more))
    (answers-grow store (line ++ b ∷ []) bs more)
  where
    by_case : (ends : Bool)
        → IsPrefix (one_more store line b bs true) (one_more store line b (bs ++ more) true)
        → IsPrefix (one_more store line b bs false) (one_more store line b (bs ++ more) false)
        → IsPrefix (one_more store line b bs ends) (one_more store line b (bs ++ more) ends)
    by_case true p q = p
    by_case false p q = q

push-grows : (text : List ℕ) → Grows (push_answer text)
push-grows text false later told more up = prefix_nil (push_answer text later (told ++ more))
push-grows text true true told more up = prefix_refl text
push-grows text true false told more up = let never = up refl in absurd (cc)

pub answers_grow : AnswersGrow
answers_grow applications.Echo up later told more e = prefix_append told more
answers_grow applications.Kv up later told more e = answers-grow [] [] told more
answers_grow (applications.Push text) up later told more e = push-grows text up later told more e

-- ## Nothing is answered before anything is told
pub nothing_first : NothingFirst
unfolding answers_from
nothing_first applications.Echo = refl
nothing_first applications.Kv = refl
nothing_first (applications.Push text) = refl

pub append_joins : (xs ys zs : List ℕ) → (xs ++ ys) ++ zs ≡ xs ++ (ys ++ zs)
append_joins xs ys zs = append_assoc xs ys zs

pub ruleset for_bytes = (answers-line, answers-byte)

pub ruleset for_lines = (answers-next, answers-none)
