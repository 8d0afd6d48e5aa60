-- Bytes that are read piece by piece.
use Rattle.std.proofs.Common.{◌≡◌, ℕ, ◌+◌, ◌<◌, ◌≤◌, List, ◌++◌, length, take, drop, sym, ap, ◌∙◌, append_assoc, arith}
use Rattle.photon_cli.proofs.Words.{take-add, append-nil, take_at, drop_at, take_all, take-take, take-append-le, length-append, length-take-le}

-- what was read so far, and a piece of what follows
pub piece_next : (bytes now read new : List ℕ) (n : ℕ) → now ≡ bytes → read ≡ take (length read) bytes → (n ≤ length (drop (length read) now)) × (new ≡ read ++ take n (drop (length read) now)) → new ≡ take (length new) bytes
piece_next bytes now read new n same e piece = grind (arith, length-append, length-take-le, take-add)

-- where nothing follows, what was read is all
pub last_piece : (bytes now read new : List ℕ) (n most : ℕ) → now ≡ bytes → read ≡ take (length read) bytes → (n ≤ length (drop (length read) now)) × (new ≡ read ++ take n (drop (length read) now))
    → n ≡ 0 → length now ≤ length read → length read < most → new ≡ take most bytes
last_piece bytes now read new n most same e piece none past few = grind (arith, append-nil, take_all)

-- and so it is where it is as long as it may be
pub all_pieces : (bytes read : List ℕ) (most : ℕ) → read ≡ take (length read) bytes → length read ≡ most → read ≡ take most bytes
all_pieces bytes read most e size = e ∙ ap (λ (k : ℕ). take k bytes) size

taken : (old buf rest : List ℕ) (n : ℕ) → n ≤ length buf → take (length old + n) (old ++ (buf ++ rest)) ≡ old ++ take n buf
taken old buf rest n fits = grind (arith, take_at, drop_at, take-append-le, take-add)

-- bytes that were made longer, read into behind the old ones, and cut behind what was read
pub piece_read : (old zeros now buf post tail new : List ℕ) (len n cap more : ℕ) → len ≡ length old → now ≡ take (len + more) old ++ zeros → len + n ≤ cap → n ≤ length buf
    → new ≡ take (len + n) (take cap ((take len now ++ (buf ++ post)) ++ tail)) → new ≡ old ++ take n buf
piece_read old zeros now buf post tail new len n cap more size e le fits is =
    let own : take (len + more) old ≡ old = take_all _ _ (omega arith) in
    let front : take len now ≡ old = rw (e, own) (take_at old zeros len (sym size)) in
    let whole : List ℕ = (take len now ++ (buf ++ post)) ++ tail in
    let regrouped : whole ≡ old ++ (buf ++ (post ++ tail)) =
    ap (λ (x : List ℕ). (x ++ (buf ++ post)) ++ tail) front ∙ append_assoc old (buf ++ post) tail ∙ ap (λ (x : List ℕ). old ++ x) (append_assoc buf post tail) in
    is ∙ take-take (len + n) cap whole le ∙ ap (take (len + n)) regrouped ∙ ap (λ (k : ℕ). take (k + n) (old ++ (buf ++ (post ++ tail)))) size ∙ taken old buf (post ++ tail) n fits
