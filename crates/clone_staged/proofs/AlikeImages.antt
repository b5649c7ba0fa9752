-- What is against the format in a copy is so in the image that it is alike to.
use Rattle.std.proofs.Common.{◌≡◌, ℕ, List, [], refl, sym, ap, subst, ◌∙◌, Option, IsSomeAnd, inl, inr}
use Rattle.std.specs.Prelude.{unwrap_or}
use Rattle.std.specs.FinMap as finite
use Rattle.clone_page.specs.Dictionary.{Lists, entry_space}
use Rattle.clone_undo.specs.Entries.{UndoEntry}
use Rattle.clone_undo.specs.Places.{header_page}
use Rattle.clone_undo.specs.Slots.{is_in_use, count_of}
use Rattle.clone_image.specs.Image.{Image, page_of}
use Rattle.clone_image.specs.Recovered.{system_pages}
use Rattle.clone_image.specs.Redone.{Standing, no_space, past_end, stands, standing_in, standing_of}
use Rattle.clone_law.specs.Alike.{LaxPage, Alike}
use Rattle.clone_law.specs.Touches.{Lax}
use Rattle.clone_recover.specs.Damage.{NamesMissing, IsSound, IsUnsoundBelow, IsBroken}
use Rattle.clone_recover.proofs.OverlayWriteLemmas.{no_space_none}

none_there : (v : Standing) → Lax no_space v → v ≡ no_space
none_there no_space lax = refl
none_there past_end lax = absurd lax
none_there (stands page) lax = sym lax

module _ (copy image : Image) (alike : Alike copy image) where
  same_system : system_pages copy ≡ system_pages image
  same_system = λ i n. unwrap_or (alike.system n i) []

  -- a space that the dictionary of the copy names and that isn't there
  pub missing_alike : ((s n : ℕ) → Lax (standing_of copy s n) (standing_of image s n)) → NamesMissing copy → NamesMissing image
  missing_alike each missing =
      let s : ℕ = entry_space missing.names.entry_number missing.system in
      let none : standing_of image s 0 ≡ no_space =
      none_there (standing_of image s 0) (subst (λ (v : Standing). Lax v (standing_of image s 0)) (ap (λ o. standing_in o 0) missing.names.missing) (each s 0)) in
      record {
        system = missing.system;
        there = sym (alike.system 0) ∙ missing.there;
        names = record { entry_number = missing.names.entry_number; within = missing.names.within; used = missing.names.used; missing = no_space_none (finite.get image s) none };
      }

  -- an undo record that is sound in the image is so in the copy
  sound_alike : (e : UndoEntry) → IsSound image e → IsSound copy e
  sound_alike e sound = record {
    ranges = sound.ranges;
    listed = subst (λ (o : Option (List ℕ)). IsSomeAnd o (λ page. Lists page e.table)) (sym (alike.system 0)) sound.listed;
    row = sound.row;
    there = subst (λ (o : Option (List ℕ)). LaxPage (page_of copy e.table e.page) o) sound.there (alike.pages e.table e.page);
  }

  -- an undo slot of the copy that is against the format
  pub broken_alike : (slot page : ℕ) → IsBroken copy slot page → IsBroken image slot page
  broken_alike slot page (inl many) = inl (record {
    within = many.within;
    is = many.is;
    bytes = many.bytes;
    there = sym (alike.system page) ∙ many.there;
    used = many.used;
    many = many.many;
  })
  broken_alike slot page (inr unsound) =
      let below = unsound.below in
      let headers : system_pages copy (header_page slot) ≡ system_pages image (header_page slot) = ap (λ (pages : ℕ → List ℕ). pages (header_page slot)) same_system in
      inr (record {
        within = unsound.within;
        used = ap is_in_use (sym headers) ∙ unsound.used;
        below = subst (λ (count : ℕ). IsUnsoundBelow image slot count page) (ap count_of headers) (record {
          number = below.number;
          counted = below.counted;
          at = record { is = below.at.is; against = λ bytes there sound. below.at.against bytes (alike.system page ∙ there) (sound_alike _ sound) };
        });
      })
