-- Outputs as bytes in a room: one output more, and those that fit.
-- Assumes nothing.
use Rattle.std.proofs.Common.{◌≡◌, ℕ, ◌+◌, ◌-◌, ◌*◌, ◌/◌, ◌%◌, ◌^◌, ◌<◌, ◌≤◌, min, Bool, true, false, ltb, List, [], ◌∷◌, ◌++◌, length, drop, ℤ, sym, refl, ap, ◌∙◌, arith, length-append, length-take, take_all, drop-drop, ltb-false, ltb-true, le-ltb, lt-ltb}
use borrow.Rule.Slice.PartMut.{put_mid}
use Rattle.std.proofs.lemmas.Slice.{put_mid-paste}
use Rattle.std.specs.Int.{w32, to_le_bytes}
use Rattle.rules.specs.Number.{four_bytes}
use lib.Seq.{sets, sets-eq, take-append_seam, drop-append-add, take-append-le}
use Rattle.rules.specs.Limits.{record_bytes, top_total}
use Rattle.rules.specs.Memory.{Output}
use Rattle.rules.specs.Calls.{out_record, out_bytes, onto}
use Rattle.rules.proofs.Buffers.{bytes-length, onto-length}
use Rattle.memory.specs.Arrays.{put_output}
use Rattle.memory.specs.Stands.{fitting}

pub le_bytes : (n : ℕ) → n < 2 ^ 32 → to_le_bytes w32 n ≡ four_bytes n
le_bytes n h = ap (λ (b : ℕ). n % 256 ∷ n / 256 % 256 ∷ n / 65536 % 256 ∷ b ∷ []) (omega arith)

-- a record copied to its place
pub puts : (room bytes : List ℕ) (n o : ℕ) (z : ℤ) → n < length room / record_bytes → bytes ≡ out_record (o % 256) z → put_mid (record_bytes * n) (record_bytes * n + record_bytes - record_bytes * n) room bytes ≡ put_output room n o z
puts room bytes n o z h e =
    rw (lt-ltb n (length room / record_bytes) h)
    (put_mid-paste (record_bytes * n) _ room bytes (out_record (o % 256) z) record_bytes e (omega arith) refl
    ∙ sym (sets-eq (out_record (o % 256) z) room (record_bytes * n) (omega arith)))

abbrev pub made : ℕ → ℤ → Output
made o z = record { name = o; value = z }

pub bytes_after : (os : List Output) (o : ℕ) (z : ℤ) → out_bytes (os ++ made o z ∷ []) ≡ out_bytes os ++ out_record o z
unfolding out_bytes
bytes_after [] o z = refl
bytes_after (p ∷ os) o z = rw (bytes_after os o z)

-- a run of stores right behind what was written
pub sets_behind : (new old vs : List ℕ) (i : ℕ) → length new ≡ i → i + length vs ≤ length old → sets (onto new old) i vs ≡ onto (new ++ vs) old
sets_behind new old vs i e h =
    let fits : length new + length vs ≤ length (onto new old) = omega (arith, onto-length new old (omega arith)) in
    rw (← e)
    (sets-eq vs (onto new old) (length new) fits
    ∙ rw (take-append_seam new (drop (length new) old), drop-append-add new (drop (length new) old) (length vs), drop-drop (length vs) (length new) old, length-append new vs))

module _ (room : List ℕ) (os : List Output) (o : ℕ) (z : ℤ) where
  -- with room for it
  pub written-more : o < 256 → length os < length room / record_bytes → put_output (onto (out_bytes os) room) (length os) o z ≡ onto (out_bytes (os ++ made o z ∷ [])) room
  written-more b h =
      let size : length (onto (out_bytes os) room) ≡ length room = onto-length (out_bytes os) room (omega (arith, bytes-length os)) in
      let byte : o % 256 ≡ o = omega arith in
      rw (size, lt-ltb (length os) (length room / record_bytes) h, byte)
      (sets_behind (out_bytes os) room (out_record o z) (record_bytes * length os) (bytes-length os) (omega arith)
      ∙ ap (λ bs. onto bs room) (sym (bytes_after os o z)))

  -- the first outputs are those before
  pub fitting-kept : length room / record_bytes ≤ length os → fitting room (os ++ made o z ∷ []) ≡ fitting room os
  fitting-kept h = take-append-le (length room / record_bytes) os (made o z ∷ []) h

pub fitting-all : (room : List ℕ) (os : List Output) → length os ≤ length room / record_bytes → fitting room os ≡ os
fitting-all room os h = take_all (length room / record_bytes) os h

pub fitting-length : (room : List ℕ) (os : List Output) → length (onto (out_bytes (fitting room os)) room) ≡ length room
fitting-length room os =
    let few : length (fitting room os) ≤ length room / record_bytes = omega (arith, length-take (length room / record_bytes) os) in
    onto-length (out_bytes (fitting room os)) room (omega (arith, bytes-length (fitting room os)))

-- one output more, written where it fits, behind n others
pub fitting-more : (room : List ℕ) (os : List Output) (o : ℕ) (z : ℤ) (n : ℕ) → o < 256 → length room ≤ top_total → n ≡ min top_total (length os) → put_output (onto (out_bytes (fitting room os)) room) n o z ≡ onto (out_bytes (fitting room (os ++ made o z ∷ []))) room
fitting-more room os o z n b l c = go (ltb (length os) (length room / record_bytes)) refl
  where
    go : (t : Bool) → ltb (length os) (length room / record_bytes) ≡ t → put_output (onto (out_bytes (fitting room os)) room) n o z ≡ onto (out_bytes (fitting room (os ++ made o z ∷ []))) room
    go true e =
        let h : length os < length room / record_bytes = ltb-true (length os) (length room / record_bytes) e in
        let m : n ≡ length os = omega arith in
        let k : length (os ++ made o z ∷ []) ≤ length room / record_bytes = rw (length-append os (made o z ∷ [])) (omega arith) in
        rw (m, fitting-all room os (omega arith), fitting-all room (os ++ made o z ∷ []) k) (written-more room os o z b h)
    go false e =
        let h : length room / record_bytes ≤ length os = ltb-false (length os) (length room / record_bytes) e in
        let m : length room / record_bytes ≤ n = omega arith in
        rw (fitting-length room os, le-ltb n (length room / record_bytes) m, fitting-kept room os o z h)
