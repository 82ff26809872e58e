-- A commit whose record would have too many bytes is cut off, and no other.
use Rattle.std.specs.Prelude.{◌≡◌, ◌<◌, ◌≤◌, ◌&&◌, ℕ, Bool, true, false, [], ◌∷◌, min, nat_lt, if◌then◌else◌, refl}
use Rattle.std.proofs.Common.{◌∙◌, ap}
use Rattle.std.proofs.lemmas.Bool.{and_from, and_parts, lt-ltb, le-ltb, ltb-true}
use Rattle.std.proofs.Math.Bool.{and-false}
use Rattle.mv_core.specs.declared.entry.Entry.{Entry}
use Rattle.mv_core.specs.declared.entry.Entry.TheVariants.{Attach, Acquire, Resync, Commit, Release, Detach}
use Rattle.mv_core.specs.declared.entry.Reply.{Reply}
use Rattle.mv_core.specs.declared.entry.Reply.TheVariants.{TooLarge}
use Rattle.mv_core.specs.SharedStep.{writes}
use Rattle.aw_store.specs.Stores.{record_of}
use Rattle.script_meaning.specs.Language.{bytes_of, is_cut_off, cut_off}

pub kept-unwritten : (asked : Entry) (reply : Reply) → writes asked reply ≡ false → is_cut_off asked reply ≡ false
kept-unwritten asked reply is = ap (λ writing. writing && nat_lt 67108864 (bytes_of (record_of asked))) is

pub kept-short : (asked : Entry) (reply : Reply) → bytes_of (record_of asked) ≤ 67108864 → is_cut_off asked reply ≡ false
kept-short asked reply short =
    ap (λ long. writes asked reply && long) (le-ltb 67108864 (bytes_of (record_of asked)) short) ∙ and-false (writes asked reply)

module _ {S : Type 0} (state : S) (asked : Entry) (r : Reply × S) where
  abbrev large : Reply × S
  large = (TooLarge (min (bytes_of (record_of asked)) 18446744073709551615), state)

  pub cut_off-kept : is_cut_off asked r.0 ≡ false → cut_off state asked r ≡ r
  cut_off-kept is = ap (λ cut. if cut then large else r) is

  pub cut_off-cut : writes asked r.0 ≡ true → 67108864 < bytes_of (record_of asked) → cut_off state asked r ≡ (TooLarge (min (bytes_of (record_of asked)) 18446744073709551615), state)
  cut_off-cut granted long =
      ap (λ cut. if cut then large else r) (and_from (writes asked r.0) (nat_lt 67108864 (bytes_of (record_of asked))) granted (lt-ltb 67108864 (bytes_of (record_of asked)) long))

  -- what holds of the answer, and of one that is cut off, holds
  pub cut_off-cases : (P : Reply × S → Type 0) → ((bytes : ℕ) → writes asked r.0 ≡ true → 67108864 < bytes_of (record_of asked) → P (TooLarge bytes, state)) → (is_cut_off asked r.0 ≡ false → P r) → P (cut_off state asked r)
  cut_off-cases P cut kept = by_test (is_cut_off asked r.0) refl
    where
      by_test : (test : Bool) → is_cut_off asked r.0 ≡ test → P (if test then large else r)
      by_test true is =
          let parts = and_parts (writes asked r.0) (nat_lt 67108864 (bytes_of (record_of asked))) is in
          cut (min (bytes_of (record_of asked)) 18446744073709551615) parts.0 (ltb-true 67108864 (bytes_of (record_of asked)) parts.1)
      by_test false is = kept is

pub large-unwritten : (asked : Entry) (bytes : ℕ) → writes asked (TooLarge bytes) ≡ false
large-unwritten (Attach who) bytes = refl
large-unwritten (Acquire who keep fresh same) bytes = refl
large-unwritten (Resync who listed) bytes = refl
large-unwritten (Commit who [] leave) bytes = refl
large-unwritten (Commit who (c ∷ changes) leave) bytes = refl
large-unwritten (Release who listed) bytes = refl
large-unwritten (Detach who) bytes = refl
