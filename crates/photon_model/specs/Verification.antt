-- Verification's words and the report's: of the records of one store both say the same of each id.
use Rattle.std.specs.Prelude.{◌≡◌, ◌↔◌, ◌*◌, true, [], map, IsSome}
use Rattle.photon_model.specs.Terms.{ClickLine, EventId, JournalsAgree, Setting, distinct, first_joiner}
use Rattle.log_records.specs.declared.records.ClickRec.{ClickRec as Click}
use Rattle.photon_model.specs.Journals.{journals, values_from}
use Rattle.photon_model.specs.Report as report
use Rattle.photon_model.specs.Runs.{Disks}
use Rattle.photon_model.specs.Sound.{IsWritten, IsMissing, SoundStore, known_of}
use Rattle.verify_pass.specs.declared.journals.Journals.{Journals}
use Rattle.verify_pass.specs.Classes as classes
use Rattle.verify_pass.specs.Classes.{notes_of}

-- the records are those of the disks: the replicas' notes, and the joiners' pairs, in the order of their numbers
pub record AreOf (g : Setting) (d : Disks) (js : Journals) : Type 0 where
  pub notes : notes_of js ≡ journals g.config.replicas d.replicas
  pub pairs : js.pairs.items ≡ values_from (λ j. (d.joiners j).pairs) (first_joiner g) (2 * g.config.joiners)

-- the pair that verification finds is the report's
abbrev pub FindsThePair : Type 0
FindsThePair = (g : Setting) (d : Disks) (js : Journals) → AreOf g d js → (i : EventId) → classes.first_pair (classes.all_pairs js) i ≡ report.pair_of g d i

-- and it finds one exactly where the id is written
abbrev pub FindsTheWritten : Type 0
FindsTheWritten = (g : Setting) (d : Disks) (js : Journals) → AreOf g d js → (i : EventId) → IsSome (classes.first_pair (classes.all_pairs js) i) ↔ IsWritten g (known_of g d []) i

-- an id's line is the report's
abbrev pub TellsTheLine : Type 0
TellsTheLine = (g : Setting) (d : Disks) (js : Journals) → AreOf g d js → (i : EventId) → classes.line_of js g.config.table i ≡ report.line_of g d i

-- so the lines of all clicks are the report
abbrev pub TellsTheReport : Type 0
TellsTheReport = (g : Setting) (d : Disks) (js : Journals) → AreOf g d js → map (λ (c : Click). classes.line_of js g.config.table c.id) (distinct (map (λ (l : ClickLine). l.click) g.clicks)) ≡ report.report g d

-- what it counts as missing is what is missing
abbrev pub CountsTheMissing : Type 0
CountsTheMissing = (g : Setting) (d : Disks) (js : Journals) → AreOf g d js → (i : EventId) → (classes.is_missing js g.config.table i ≡ true) ↔ IsMissing g (known_of g d []) i

-- a sound store has what verification asks of the records
abbrev pub SoundAgrees : Type 0
SoundAgrees = (g : Setting) (d : Disks) (js : Journals) → AreOf g d js → SoundStore g d → JournalsAgree (notes_of js)
