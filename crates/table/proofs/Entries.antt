-- The bytes of an event or an output, where what holds them was cut into pieces of 8 bytes: piece i has those of record i.
-- Assumes nothing.
use Rattle.std.proofs.Common.{◌≡◌, ℕ, zero, suc, ◌+◌, ◌*◌, ◌/◌, ◌<◌, List, get_or, drop, length, ap, ◌∙◌, arith, zero-add, lt-ltb}
use Rattle.std.proofs.lemmas.List.{get_or-drop, get_or-take}
use Rattle.std.specs.Simd.{first_chunks}
use Rattle.rules.specs.Limits.{record_bytes}
use Rattle.rules.specs.Table.{byte_at}
use Rattle.table.specs.Entries.{entry_of, entry_at}

byte-of-piece : (k : ℕ) (l : List ℕ) (i j : ℕ) (d : List ℕ) → i < k → j < record_bytes → get_or (get_or (first_chunks record_bytes k l) i d) j 0 ≡ get_or l (record_bytes * i + j) 0
byte-of-piece zero l i j d h g = absurd (omega arith)
byte-of-piece (suc k) l zero j d h g = get_or-take record_bytes l j 0 g ∙ rw (zero-add j)
byte-of-piece (suc k) l (suc i) j d h g =
    let place : record_bytes + (record_bytes * i + j) ≡ record_bytes * suc i + j = omega arith in
    byte-of-piece k (drop record_bytes l) i j d (omega arith) g ∙ get_or-drop record_bytes l (record_bytes * i + j) 0 ∙ ap (λ p. get_or l p 0) place

module _ (l : List ℕ) {pieces : List (List ℕ)} (cut : pieces ≡ first_chunks record_bytes (length l / record_bytes) l) {i : ℕ} (inside : i < length l / record_bytes) where
  pub byte-of-record : (j : ℕ) (d : List ℕ) → j < record_bytes → byte_at (get_or pieces i d) 0 j ≡ byte_at l i j
  byte-of-record j d g =
      let front : record_bytes * 0 + j ≡ j = omega arith in
      rw (front, cut) (byte-of-piece (length l / record_bytes) l i j d inside g)

  pub entry-of-record : (d : List ℕ) → entry_of (get_or pieces i d) 0 ≡ entry_of l i
  entry-of-record d = rw (byte-of-record 0 d (omega arith), byte-of-record 4 d (omega arith), byte-of-record 5 d (omega arith), byte-of-record 6 d (omega arith), byte-of-record 7 d (omega arith))

  pub entry-of-piece : {piece : List ℕ} → piece ≡ get_or pieces i piece → entry_of piece 0 ≡ entry_at l i
  entry-of-piece {piece} e = rw (lt-ltb _ _ inside) (ap (λ p. entry_of p 0) e ∙ entry-of-record piece)
