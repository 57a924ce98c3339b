-- What a search over marks or events finds: no mark set; the first event that is not right, and stage 10 of the whole list.
-- Assumes nothing.
use Rattle.std.specs.List.{list_all, AllWithin, HoldsAt}
use Rattle.std.specs.Simd.{first_chunks}
use Rattle.std.specs.Prelude.{if◌then◌else◌, Option, None, Some, MatchOption}
use mathlib.Core.Path.{◌≡◌, refl, sym, ap, ◌∙◌}
use mathlib.Core.Bool.{Bool, true, false, ◌&&◌}
use mathlib.Core.List.{List, [], ◌∷◌, ◌++◌}
use Prim.Native.Nat.{ℕ, ◌/◌, ◌%◌, ◌≤◌, ◌<◌}
use native.Mathlib.Omega.{arith}
use lib.Dec.{eqb}
use lib.ListN.{length, get_or}
use borrow.Author.Tests.{eq-eqb, ne_eqb, le-ltb}
use Rattle.rules.specs.Stages.{failing}
use Rattle.rules.specs.Limits.{most_list_bytes, record_bytes}
use Rattle.rules.specs.Marks.{all_zero}
use Rattle.rules.specs.Lists.{event_right, list_fails}
use Rattle.table.specs.Found.{first_of, or_next, First}
use Rattle.table.proofs.Entries.{byte-of-record}
use Rattle.table.proofs.Finding.{first-append, first_fails}

-- ---- no mark is set

pub all_zeros : (m : List ℕ) → list_all (λ x. eqb x 0) m ≡ all_zero m
unfolding all_zero
all_zeros [] = refl
all_zeros (x ∷ xs) = ap (λ (b : Bool). eqb x 0 && b) (all_zeros xs)

-- ---- the events of a list

-- where the last record is broken
abbrev broken : List ℕ → List ℕ
broken es = if eqb (length es % record_bytes) 0 then [] else length es / record_bytes ∷ []

module _ (es : List ℕ) (pieces : List (List ℕ)) (cut : pieces ≡ first_chunks record_bytes (length es / record_bytes) es) where
  right-of-record : (i : ℕ) (d : List ℕ) → i < length es / record_bytes → event_right es i ≡ event_right (get_or pieces i d) 0
  right-of-record i d h = rw (byte-of-record es cut h 0 d (omega arith), byte-of-record es cut h 1 d (omega arith), byte-of-record es cut h 2 d (omega arith), byte-of-record es cut h 3 d (omega arith))

  pub first-record : length pieces ≡ length es / record_bytes → (r : Option ℕ) →
      MatchOption r (AllWithin (λ x. event_right x 0 ≡ true) pieces 0 (length pieces)) (λ i. (i < length pieces) × HoldsAt (λ x. event_right x 0 ≡ false) pieces i × AllWithin (λ x. event_right x 0 ≡ true) pieces 0 i) →
      First (event_right es) (length es / record_bytes) r
  first-record n None h = λ k z l. right-of-record k [] l ∙ h k [] z (omega arith)
  first-record n (Some i) h = (omega arith, omega (arith, h.0), right-of-record i [] (omega (arith, h.0)) ∙ h.1 [], λ k z l. right-of-record k [] (omega (arith, h.0)) ∙ h.2 k [] z l)

module _ (es : List ℕ) (short : length es ≤ most_list_bytes) (r : Option ℕ) (f : First (event_right es) (length es / record_bytes) r) where
  all-fails : (l : List ℕ) → broken es ≡ l → first_of (list_fails es) ≡ or_next r (first_of l)
  all-fails l e =
      let fails : list_fails es ≡ failing (event_right es) 0 (length es / record_bytes) ++ l = rw (le-ltb most_list_bytes (length es) short, e) in
      ap first_of fails
      ∙ first-append (failing (event_right es) 0 (length es / record_bytes)) l
      ∙ ap (λ (x : Option ℕ). or_next x (first_of l)) (sym (first_fails (event_right es) (length es / record_bytes) r f))

  pub wrong-event : {i : ℕ} → r ≡ Some i → Some i ≡ first_of (list_fails es)
  wrong-event e = sym (rw e at (all-fails (broken es) refl))

  pub broken-last : r ≡ None → (length es % record_bytes ≡ 0 → ⊥) → Some (length es / record_bytes) ≡ first_of (list_fails es)
  broken-last e x = sym (rw e at (all-fails (length es / record_bytes ∷ []) (rw (ne_eqb (length es % record_bytes) 0 x))))

  pub none-bad : r ≡ None → length es % record_bytes ≡ 0 → None ≡ first_of (list_fails es)
  none-bad e x = sym (rw e at (all-fails [] (rw (eq-eqb (length es % record_bytes) 0 x))))
