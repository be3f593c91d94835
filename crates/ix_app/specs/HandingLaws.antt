-- Laws for the proof of an application: what it hands on at one event is what a ruled one hands on.
use Rattle.std.specs.Prelude.{◌≡◌, ℕ, ◌+◌, Bool, true, false, nat_lt, ◌==◌, ◌||◌, if◌then◌else◌, List, [], ◌∷◌, ◌++◌, length, drop, min}
use Rattle.std.proofs.Common.{refl, sym, ap, subst, ◌∙◌, append-nil, append_assoc, arith}
use Rattle.std.proofs.lemmas.Bool.Decides.{nat_tests}
use Rattle.std.specs.Option.{option_to_list}
use Rattle.ix_mbuf.specs.Buffers.{Piece, Buffer, piece_bytes}
use Rattle.ix_call.specs.declared.chunk.Chunk.{Chunk}
use Rattle.ix_call.specs.declared.chunk.Chunk.TheVariants as chunks
use Rattle.ix_call.specs.Chunks.{chunk_bytes, chunks_bytes, chunk_buffer, chunks_buffers}
use Rattle.ix_app.specs.declared.event.AppEvent.{AppEvent}
use Rattle.ix_app.specs.declared.event.AppEvent.TheVariants.{Up, Recv, PeerEnd, Sent, Dead}
use Rattle.ix_app.specs.Told.{is_end, buffers_in, parts_in}
use Rattle.ix_app.specs.Handing.{HandedOn, Answered, goes_on, done_after, bytes_most, sent, is_blank, let_go, written}

-- ## Lists and tests
drop-whole : (xs : List ℕ) → drop (length xs) xs ≡ []
drop-whole [] = refl
drop-whole (x ∷ xs) = drop-whole xs

pub drop-front : (xs ys : List ℕ) → drop (length xs) (xs ++ ys) ≡ ys
drop-front [] ys = refl
drop-front (x ∷ xs) ys = drop-front xs ys

none_if : (xs : List ℕ) → (length xs == 0) ≡ true → xs ≡ []
none_if [] e = refl
none_if (x ∷ xs) e = let some : (length (x ∷ xs) == 0) ≡ false = grind (arith, nat_tests) in absurd (cc)

some_if : (n : ℕ) → (n == 0) ≡ false → nat_lt 0 n ≡ true
some_if n e = grind (arith, nat_tests)

not_some_if : (n : ℕ) → (n == 0) ≡ true → nat_lt 0 n ≡ false
not_some_if n e = grind (arith, nat_tests)

chunks_bytes-push : (cs : List Chunk) (c : Chunk) → chunks_bytes (cs ++ c ∷ []) ≡ chunks_bytes cs ++ chunk_bytes c
chunks_bytes-push [] c = append-nil (chunk_bytes c)
chunks_bytes-push (d ∷ ds) c =
    ap (λ (xs : List ℕ). chunk_bytes d ++ xs) (chunks_bytes-push ds c) ∙ sym (append_assoc (chunk_bytes d) (chunks_bytes ds) (chunk_bytes c))

chunks_buffers-push : (cs : List Chunk) (c : Chunk) → chunks_buffers (cs ++ c ∷ []) ≡ chunks_buffers cs ++ option_to_list (chunk_buffer c)
chunks_buffers-push [] c = append-nil (option_to_list (chunk_buffer c))
chunks_buffers-push (d ∷ ds) c =
    ap (λ (xs : List Buffer). option_to_list (chunk_buffer d) ++ xs) (chunks_buffers-push ds c)
    ∙ sym (append_assoc (option_to_list (chunk_buffer d)) (chunks_buffers ds) (option_to_list (chunk_buffer c)))

-- nothing more than before
same_bytes : (old answer : List ℕ) → old ≡ old ++ drop (length answer) answer
same_bytes old answer = sym (ap (λ (xs : List ℕ). old ++ xs) (drop-whole answer) ∙ append-nil old)

either : (b : Bool) (xs : List Buffer) → (if b then xs else xs) ≡ xs
either true xs = refl
either false xs = refl

or_false : (b : Bool) → b ≡ (b || false)
or_false true = refl
or_false false = refl

or_true : (b : Bool) → true ≡ (b || true)
or_true true = refl
or_true false = refl

-- ## An event that brings no bytes, and is not answered
told_nothing : (forwards : Bool) (event : AppEvent) (answer : List ℕ) (old new : HandedOn)
    → buffers_in event ≡ [] → parts_in event ≡ [] → done_after event old.done ≡ old.done
    → new.chunks ≡ old.chunks → new.freed ≡ old.freed → new.done ≡ old.done → new.closing ≡ (old.closing || is_end event)
    → Answered forwards event answer answer old new
told_nothing forwards event answer old new no_buffers no_parts no_done chunks freed done closing = record {
  bytes = ap (λ (cs : List Chunk). chunks_bytes cs) chunks ∙ same_bytes (chunks_bytes old.chunks) answer;
  kept =
      ap (λ (cs : List Chunk). chunks_buffers cs) chunks
      ∙ sym (ap (λ (xs : List Buffer). chunks_buffers old.chunks ++ xs) (ap (λ (ys : List Buffer). if goes_on forwards event then ys else []) no_buffers ∙ either (goes_on forwards event) [])
      ∙ append-nil (chunks_buffers old.chunks));
  freed =
      freed
      ∙ sym (ap (λ (xs : List Buffer). old.freed ++ xs) (ap (λ (ys : List Buffer). if goes_on forwards event then [] else ys) no_buffers ∙ either (goes_on forwards event) [])
      ∙ append-nil old.freed);
  whole = λ e. chunks ∙ sym (ap (λ (cs : List Chunk). old.chunks ++ cs) no_parts ∙ append-nil old.chunks);
  done = done ∙ sym no_done;
  closing = closing;
}

abbrev pub IsQuiet : AppEvent → Type 0
IsQuiet Up = Unit {0}
IsQuiet (Recv part) = ⊥
IsQuiet PeerEnd = ⊥
IsQuiet (Sent bytes) = Unit {0}
IsQuiet (Dead reason) = Unit {0}

-- Nothing is handed on.
pub quiet : (forwards : Bool) (event : AppEvent) (answer : List ℕ) (o : HandedOn) → IsQuiet event → Answered forwards event answer answer o o
quiet forwards Up answer o q = told_nothing forwards Up answer o o refl refl refl refl refl refl (or_false o.closing)
quiet forwards (Recv part) answer o q = absurd q
quiet forwards PeerEnd answer o q = absurd q
quiet forwards (Sent bytes) answer o q = told_nothing forwards (Sent bytes) answer o o refl refl refl refl refl refl (or_false o.closing)
quiet forwards (Dead reason) answer o q = told_nothing forwards (Dead reason) answer o o refl refl refl refl refl refl (or_false o.closing)

-- It closes at the peer's end.
pub closes : (forwards : Bool) (answer : List ℕ) (old new : HandedOn) → new ≡ record old { closing = true } → Answered forwards PeerEnd answer answer old new
closes forwards answer old new e =
    told_nothing forwards PeerEnd answer old new refl refl refl
    (ap (λ (o : HandedOn). o.chunks) e) (ap (λ (o : HandedOn). o.freed) e) (ap (λ (o : HandedOn). o.done) e)
    (ap (λ (o : HandedOn). o.closing) e ∙ or_true old.closing)

-- ## Bytes of its own
record Wrote (more : List ℕ) (old new : HandedOn) : Type 0 where
  pub bytes : chunks_bytes new.chunks ≡ chunks_bytes old.chunks ++ more
  pub kept : chunks_buffers new.chunks ≡ chunks_buffers old.chunks
  pub freed : new.freed ≡ old.freed
  pub done : new.done ≡ old.done
  pub closing : new.closing ≡ old.closing

abbrev sent_if : Bool → Chunk → HandedOn → HandedOn
sent_if blank chunk o = if blank then let_go chunk o else written chunk o

sent-is : (chunk : Chunk) (o : HandedOn) → sent chunk o ≡ sent_if (is_blank chunk) chunk o
unfolding sent
sent-is chunk o = refl

wrote-if : (blank : Bool) (bytes : List ℕ) (o : HandedOn) → (blank ≡ true → bytes ≡ []) → Wrote bytes o (sent_if blank (chunks.Own bytes) o)
wrote-if true bytes o none = record {
  bytes = sym (ap (λ (xs : List ℕ). chunks_bytes o.chunks ++ xs) (none refl) ∙ append-nil (chunks_bytes o.chunks));
  kept = refl;
  freed = append-nil o.freed;
  done = refl;
  closing = refl;
}
wrote-if false bytes o none = record {
  bytes = chunks_bytes-push o.chunks (chunks.Own bytes);
  kept = chunks_buffers-push o.chunks (chunks.Own bytes) ∙ append-nil (chunks_buffers o.chunks);
  freed = refl;
  done = refl;
  closing = refl;
}

wrote : (bytes : List ℕ) (old new : HandedOn) → new ≡ sent (chunks.Own bytes) old → Wrote bytes old new
wrote bytes old new e =
    subst (λ (o : HandedOn). Wrote bytes old o) (sym (e ∙ sent-is (chunks.Own bytes) old))
    (wrote-if (is_blank (chunks.Own bytes)) bytes old (none_if bytes))

-- It answers once its connection is up.
pub answers_up : (bytes before after : List ℕ) (old new : HandedOn) → bytes ≡ drop (length before) after → new ≡ sent (chunks.Own bytes) old
    → Answered false Up before after old new
answers_up bytes before after old new grown e = let w = wrote bytes old new e in record {
  bytes = w.bytes ∙ ap (λ (xs : List ℕ). chunks_bytes old.chunks ++ xs) grown;
  kept = w.kept ∙ sym (append-nil (chunks_buffers old.chunks));
  freed = w.freed ∙ sym (append-nil old.freed);
  whole = λ e. absurd (cc);
  done = w.done;
  closing = w.closing ∙ or_false old.closing;
}

-- ## A told part
-- It is done with the bytes, and releases the part.
pub releases : (part : Piece) (answer : List ℕ) (n : ℕ) (old mid new : HandedOn) → n ≡ length (piece_bytes part)
    → mid ≡ record old { done = min (old.done + n) bytes_most } → new ≡ record mid { freed = mid.freed ++ part.buf ∷ [] }
    → Answered false (Recv part) answer answer old new
releases part answer n old mid new count m e = record {
  bytes = ap (λ (o : HandedOn). chunks_bytes o.chunks) e ∙ ap (λ (o : HandedOn). chunks_bytes o.chunks) m ∙ same_bytes (chunks_bytes old.chunks) answer;
  kept = ap (λ (o : HandedOn). chunks_buffers o.chunks) e ∙ ap (λ (o : HandedOn). chunks_buffers o.chunks) m ∙ sym (append-nil (chunks_buffers old.chunks));
  freed = ap (λ (o : HandedOn). o.freed) e ∙ ap (λ (o : HandedOn). o.freed ++ part.buf ∷ []) m;
  whole = λ e. absurd (cc);
  done = ap (λ (o : HandedOn). o.done) e ∙ ap (λ (o : HandedOn). o.done) m ∙ ap (λ (k : ℕ). min (old.done + k) bytes_most) count;
  closing = ap (λ (o : HandedOn). o.closing) e ∙ ap (λ (o : HandedOn). o.closing) m ∙ or_false old.closing;
}

-- It answers between the two.
pub answers : (part : Piece) (bytes before after : List ℕ) (n : ℕ) (old mid out new : HandedOn) → bytes ≡ drop (length before) after
    → n ≡ length (piece_bytes part) → mid ≡ record old { done = min (old.done + n) bytes_most } → out ≡ sent (chunks.Own bytes) mid
    → new ≡ record out { freed = out.freed ++ part.buf ∷ [] } → Answered false (Recv part) before after old new
answers part bytes before after n old mid out new grown count m s e = let w = wrote bytes mid out s in record {
  bytes =
      ap (λ (o : HandedOn). chunks_bytes o.chunks) e ∙ w.bytes ∙ ap (λ (o : HandedOn). chunks_bytes o.chunks ++ bytes) m
      ∙ ap (λ (xs : List ℕ). chunks_bytes old.chunks ++ xs) grown;
  kept =
      ap (λ (o : HandedOn). chunks_buffers o.chunks) e ∙ w.kept ∙ ap (λ (o : HandedOn). chunks_buffers o.chunks) m
      ∙ sym (append-nil (chunks_buffers old.chunks));
  freed = ap (λ (o : HandedOn). o.freed) e ∙ ap (λ (bufs : List Buffer). bufs ++ part.buf ∷ []) (w.freed ∙ ap (λ (o : HandedOn). o.freed) m);
  whole = λ e. absurd (cc);
  done = ap (λ (o : HandedOn). o.done) e ∙ w.done ∙ ap (λ (o : HandedOn). o.done) m ∙ ap (λ (k : ℕ). min (old.done + k) bytes_most) count;
  closing = ap (λ (o : HandedOn). o.closing) e ∙ w.closing ∙ ap (λ (o : HandedOn). o.closing) m ∙ or_false old.closing;
}

-- It is done with the bytes, and sends the part whole.
forwards-if : (blank goes : Bool) (part : Piece) (told : List ℕ) (old : HandedOn) → (blank ≡ true → piece_bytes part ≡ [])
    → (blank ≡ true → goes ≡ false) → (blank ≡ false → goes ≡ true) → goes_on true (Recv part) ≡ goes
    → Answered true (Recv part) told (told ++ piece_bytes part) old
    (sent_if blank (chunks.Part part) (record old { done = min (old.done + length (piece_bytes part)) bytes_most }))
forwards-if true goes part told old none stays goes_if is = let no = is ∙ stays refl in record {
  bytes = sym (ap (λ (xs : List ℕ). chunks_bytes old.chunks ++ xs) (drop-front told (piece_bytes part) ∙ none refl) ∙ append-nil (chunks_bytes old.chunks));
  kept = sym (ap (λ (b : Bool). chunks_buffers old.chunks ++ (if b then part.buf ∷ [] else [])) no ∙ append-nil (chunks_buffers old.chunks));
  freed = sym (ap (λ (b : Bool). old.freed ++ (if b then [] else part.buf ∷ [])) no);
  whole = λ e. absurd (cc);
  done = refl;
  closing = or_false old.closing;
}
forwards-if false goes part told old none stays goes_if is = let yes = is ∙ goes_if refl in record {
  bytes = chunks_bytes-push old.chunks (chunks.Part part) ∙ sym (ap (λ (xs : List ℕ). chunks_bytes old.chunks ++ xs) (drop-front told (piece_bytes part)));
  kept = chunks_buffers-push old.chunks (chunks.Part part) ∙ sym (ap (λ (b : Bool). chunks_buffers old.chunks ++ (if b then part.buf ∷ [] else [])) yes);
  freed = sym (ap (λ (b : Bool). old.freed ++ (if b then [] else part.buf ∷ [])) yes ∙ append-nil old.freed);
  whole = λ e. refl;
  done = refl;
  closing = or_false old.closing;
}

pub forwards : (part : Piece) (told : List ℕ) (n : ℕ) (old mid new : HandedOn) → n ≡ length (piece_bytes part)
    → mid ≡ record old { done = min (old.done + n) bytes_most } → new ≡ sent (chunks.Part part) mid
    → Answered true (Recv part) told (told ++ piece_bytes part) old new
forwards part told n old mid new count m e =
    subst (λ (o : HandedOn). Answered true (Recv part) told (told ++ piece_bytes part) old o)
    (sym (e
    ∙ ap (λ (o : HandedOn). sent (chunks.Part part) o) (m ∙ ap (λ (k : ℕ). record old { done = min (old.done + k) bytes_most }) count)
    ∙ sent-is (chunks.Part part) (record old { done = min (old.done + length (piece_bytes part)) bytes_most })))
    (forwards-if (is_blank (chunks.Part part)) (nat_lt 0 (length (piece_bytes part))) part told old (none_if (piece_bytes part))
    (not_some_if (length (piece_bytes part))) (some_if (length (piece_bytes part))) refl)
