-- A session that is given more of a stream.
use Rattle.std.proofs.Common.{◌≡◌, ℕ, ◌+◌, ◌<◌, ◌≤◌, refl, sym, ap, ◌∙◌, List, [], ◌∷◌, ◌++◌, length, get_or, drop, append_assoc, append-nil, arith}
use Rattle.std.proofs.lemmas.List.{drop_more, drop_all}
use Rattle.ix_appdef.specs.declared.store.Entry.{Entry}
use Rattle.ix_appdef.specs.declared.key_value.Session.{Session}
use Rattle.ix_appdef.specs.KeyValue.{answers_from, answers_with, answers_to}
use Rattle.ix_apps.specs.Sessions.{Continues, grown_by}

-- ## The loop over bytes
pub next_byte : (bytes rest : List ℕ) (i : ℕ) → i < length bytes → drop i bytes ++ rest ≡ get_or bytes i 0 ∷ (drop (i + 1) bytes ++ rest)
next_byte bytes rest i h = ap (λ xs. xs ++ rest) (drop_more bytes i 0 h)

pub no_byte : (bytes rest : List ℕ) (n : ℕ) → length bytes ≤ n → drop n bytes ++ rest ≡ rest
no_byte bytes rest n h = ap (λ xs. xs ++ rest) (drop_all n bytes h)

-- ## More bytes
-- answers_from of no bytes
pub answers-nil : (s : Session) → answers_from s.store s.line [] ≡ []
unfolding answers_from
answers-nil s = refl

drop-front : (xs ys : List ℕ) → drop (length xs) (xs ++ ys) ≡ ys
drop-front [] ys = refl
drop-front (x ∷ xs) ys = drop-front xs ys

-- the answers that a session then holds are those that were to follow
pub held-answers : (s t : Session) (bytes : List ℕ) → s.answer ≡ [] → ((rest : List ℕ) → answers_with t rest ≡ answers_with s (bytes ++ rest)) → t.answer ≡ answers_from s.store s.line bytes
held-answers s t bytes e f =
    sym (append-nil t.answer)
    ∙ ap (λ xs. t.answer ++ xs) (sym (answers-nil t))
    ∙ f []
    ∙ ap (λ xs. xs ++ answers_from s.store s.line (bytes ++ [])) e
    ∙ ap (λ xs. answers_from s.store s.line xs) (append-nil bytes)

pub grown : (s t : Session) (told bytes : List ℕ) → Continues s told → ((rest : List ℕ) → answers_with t rest ≡ answers_with s (bytes ++ rest)) → t.answer ≡ grown_by told bytes
grown s t told bytes p f =
    held-answers s t bytes p.taken f
    ∙ sym (drop-front (answers_to told) (answers_from s.store s.line bytes))
    ∙ sym (ap (λ xs. drop (length (answers_to told)) xs) (p.follows bytes))

pub goes_on : (s t u : Session) (told bytes : List ℕ) → Continues s told → ((rest : List ℕ) → answers_with t rest ≡ answers_with s (bytes ++ rest))
    → u.store ≡ t.store → u.line ≡ t.line → u.answer ≡ [] → Continues u (told ++ bytes)
goes_on s t u told bytes p f store line none = record {
  taken = none;
  follows = λ rest.
      ap (λ xs. answers_to xs) (append_assoc told bytes rest)
      ∙ p.follows (bytes ++ rest)
      ∙ ap (λ xs. answers_to told ++ xs) (ap (λ xs. xs ++ answers_from s.store s.line (bytes ++ rest)) (sym p.taken) ∙ sym (f rest) ∙ ap (λ xs. xs ++ answers_from t.store t.line rest) (held-answers s t bytes p.taken f))
      ∙ sym (append_assoc (answers_to told) (answers_from s.store s.line bytes) (answers_from t.store t.line rest))
      ∙ ap (λ xs. xs ++ answers_from t.store t.line rest) (sym (p.follows bytes))
      ∙ ap (λ xs. answers_to (told ++ bytes) ++ xs) (cc);
}

-- a session that was given nothing
pub starts : (s : Session) → s.store ≡ [] → s.line ≡ [] → s.answer ≡ [] → Continues s []
unfolding answers_from
starts s store line answer = record {
  taken = answer;
  follows = λ rest. sym (ap (λ (es : List Entry). answers_from es s.line rest) store ∙ ap (λ (bytes : List ℕ). answers_from [] bytes rest) line);
}

pub ruleset for_bytes = (next_byte, no_byte)
