-- What verification makes of the journals that a store is read as.
use Rattle.std.specs.Prelude.{◌≡◌, ℕ, List, [], map, Bool}
use Rattle.site_store.specs.Terms.{AreLeft, AreOf, Click, ClickLine, DiskName, IsSoundStore, Setting, Store, WholeSound, values_from}
use Rattle.log_records.specs.Report.{distinct}
use Rattle.photon_model.specs.Report.{report}
use Rattle.verify_pass.specs.declared.journals.Journals.{Journals}
use Rattle.verify_pass.specs.Classes.{line_of}

-- Records that the disks kept, each in an image of its disk: the journals are theirs, and the lines of all click ids, as
-- verification tells them from the journals, are the report of these records. Of a sound store they are a whole store.
pub record Tells (g : Setting) (image : DiskName → List ℕ → Type 0) (journals : Journals) : Type 0 where
  pub store : Store
  pub left : AreLeft g image store
  pub are : AreOf g store.disks journals
  pub lines : map (λ (c : Click). line_of journals g.config.table c.id) (distinct (map (λ (l : ClickLine). l.click) g.clicks)) ≡ report g store.disks
  pub whole : IsSoundStore g image → (used : Bool) × WholeSound g (record store { is_used = used })

-- so many replicas without notes, and no outputs
pub record KeepsNothing (replicas : ℕ) (journals : Journals) : Type 0 where
  pub notes : journals.notes.items ≡ values_from (λ r. []) 0 replicas
  pub pairs : journals.pairs.items ≡ []
