-- What is told only adds to each answer, and nothing is answered before.
use Rattle.std.specs.Prelude.{◌≡◌, ℕ, ◌==◌, Bool, true, false, if◌then◌else◌, List, [], ◌∷◌, ◌++◌}
use Rattle.std.proofs.Common.{refl}
use Rattle.ix_base.specs.Prefix.{IsPrefix, prefix_nil, prefix_refl, prefix_append, prefix_behind}
use Rattle.ix_appdef.specs.declared.store.Entry.{Entry}
use Rattle.ix_appdef.specs.KeyValue.{outcome_of, answers_from}
use Rattle.ix_appdef.specs.Answers.{Grows, echo_answer, kv_answer, push_answer}

pub echo_grows : Grows echo_answer
echo_grows up later told more e = prefix_append told more

pub push_grows : (text : List ℕ) → Grows (push_answer text)
push_grows text false later told more up = prefix_nil (push_answer text later (told ++ more))
push_grows text true true told more up = prefix_refl text
push_grows text true false told more up = let never = up refl in absurd (cc)

-- by one more byte
abbrev one_more : List Entry → List ℕ → ℕ → List ℕ → Bool → List ℕ
one_more store line b bs ends =
    if ends
    then (outcome_of line store).answer ++ answers_from (outcome_of line store).store [] bs
    else answers_from store (line ++ b ∷ []) bs

pub answers_from-grows : (store : List Entry) (line told more : List ℕ) → IsPrefix (answers_from store line told) (answers_from store line (told ++ more))
unfolding answers_from
answers_from-grows store line [] more = prefix_nil (answers_from store line more)
answers_from-grows store line (b ∷ bs) more =
    by_case (b == 0x0a)
    (prefix_behind (outcome_of line store).answer _ _ (answers_from-grows (outcome_of line store).store [] bs more))
    (answers_from-grows store (line ++ b ∷ []) bs more)
  where
    by_case : (ends : Bool)
        → IsPrefix (one_more store line b bs true) (one_more store line b (bs ++ more) true)
        → IsPrefix (one_more store line b bs false) (one_more store line b (bs ++ more) false)
        → IsPrefix (one_more store line b bs ends) (one_more store line b (bs ++ more) ends)
    by_case true p q = p
    by_case false p q = q

pub kv_grows : Grows kv_answer
kv_grows up later told more e = answers_from-grows [] [] told more

pub kv_first : kv_answer false [] ≡ []
unfolding answers_from
kv_first = refl
