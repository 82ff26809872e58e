-- For callers: each row of bytes reads in one way, and what a load answers is then exactly the answer of its image.
use Rattle.std.proofs.Common.{◌≡◌, inl, inr, ℕ, List, Ok, Err, Result, ap, refl}
use Rattle.aw_journal.specs.Format.{IsUnformatted}
use Rattle.aw_journal.specs.Loads.{IsHindered, IsRefusedAs, IsAnswered}
use Rattle.aw_journal.specs.declared.fault.LoadFault.{LoadFault}
use Rattle.aw_journal.specs.declared.fault.LoadFault.TheVariants.{Unformatted, Damaged, DiskFault, NoMemory}

module _ (IsDamaged : List ℕ → ℕ → Type 0) (IsWhole : List ℕ → Type 0) where
  -- the image is only one of these, and is damaged at one offset
  pub record IsOne (image : List ℕ) : Type 0 where
    pub unformatted_or_whole : IsUnformatted image → IsWhole image → ⊥
    pub unformatted_or_damaged : (offset : ℕ) → IsUnformatted image → IsDamaged image offset → ⊥
    pub whole_or_damaged : (offset : ℕ) → IsWhole image → IsDamaged image offset → ⊥
    pub offset : (offset other : ℕ) → IsDamaged image offset → IsDamaged image other → offset ≡ other

  -- what an image is that was refused so
  abbrev pub IsWhy : LoadFault → List ℕ → Type 0
  IsWhy Unformatted image = IsUnformatted image
  IsWhy (Damaged offset) image = IsDamaged image offset
  IsWhy DiskFault image = Unit {0}
  IsWhy NoMemory image = Unit {0}

  pub loaded : {A D : Type 0} (value : A) (image : List ℕ) → IsOne image → IsWhole image → IsAnswered IsDamaged IsWhole {A = A} {D = D} (Ok value) image
  loaded value image one whole = record {
    unformatted = λ unformatted. absurd (one.unformatted_or_whole unformatted whole);
    damaged = λ offset damaged. absurd (one.whole_or_damaged offset whole damaged);
    whole = λ again. tt;
  }

  pub refused : {A D : Type 0} (fault : LoadFault) (disk : D) (image : List ℕ) → IsOne image → IsWhy fault image → IsAnswered IsDamaged IsWhole {A = A} {D = D} (Err (fault, disk)) image
  refused Unformatted disk image one why = record {
    unformatted = λ again. (tt, inl refl);
    damaged = λ offset damaged. absurd (one.unformatted_or_damaged offset why damaged);
    whole = λ whole. absurd (one.unformatted_or_whole why whole);
  }
  refused (Damaged offset) disk image one why = record {
    unformatted = λ unformatted. absurd (one.unformatted_or_damaged offset unformatted why);
    damaged = λ other damaged. (tt, inl (ap Damaged (one.offset offset other why damaged)));
    whole = λ whole. absurd (one.whole_or_damaged offset whole why);
  }
  refused DiskFault disk image one why = record {
    unformatted = λ unformatted. (tt, inr (inl refl));
    damaged = λ offset damaged. (tt, inr (inl refl));
    whole = λ whole. inl refl;
  }
  refused NoMemory disk image one why = record {
    unformatted = λ unformatted. (tt, inr (inr refl));
    damaged = λ offset damaged. (tt, inr (inr refl));
    whole = λ whole. inr refl;
  }
