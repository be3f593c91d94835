-- The bytes of a stream, one after the other.
use Rattle.std.proofs.Common.{◌≡◌, ℕ, zero, suc, ◌+◌, ◌-◌, ◌%◌, ◌<◌, List, [], ◌∷◌, ◌++◌, length, refl, ap, ◌∙◌, arith, append_assoc, length-append, ◌≤◌}
use Rattle.ix_gen.specs.Clients.{stream_from}

-- a byte more
pub stream_step : (bytes new : List ℕ) (b n k : ℕ) → new ≡ bytes ++ b ∷ [] → k < n
    → new ++ stream_from ((b + 1) % 251) (n - (k + 1)) ≡ bytes ++ stream_from b (n - k)
stream_step bytes new b n k is below =
    let e : n - k ≡ suc (n - (k + 1)) = omega arith in
    rw (is, e, append_assoc) refl

pub stream_length : (b n : ℕ) → length (stream_from b n) ≡ n
stream_length b zero = refl
stream_length b (suc n) = ap suc (stream_length ((b + 1) % 251) n)

-- behind the last byte
pub stream_whole : (bytes : List ℕ) (first next n k : ℕ) → n ≤ k → bytes ++ stream_from next (n - k) ≡ stream_from first n → length bytes ≡ n
stream_whole bytes first next n k done so_far =
    let whole : length (bytes ++ stream_from next (n - k)) ≡ n = ap length so_far ∙ stream_length first n in
    let parts = length-append bytes (stream_from next (n - k)) in
    let rest = stream_length next (n - k) in
    omega (arith, whole, parts, rest)
