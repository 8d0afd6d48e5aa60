-- Two settings with the same disks.
use Rattle.std.proofs.Common.{◌≡◌, ℕ, ◌+◌, ◌*◌, ◌<◌, List, sym, ◌∙◌, ap, subst}
use Rattle.site_laws.proofs.Words.{DiskName, KeepsEpoch, KeepsPairs, Setting, first_joiner, Disks, IsDisk, joiner_of, KeepsOf}
use Rattle.outside.specs.declared.store.DiskName.TheVariants as name

module _ (g h : Setting) (joiners : g.config.joiners ≡ h.config.joiners) (replicas : g.config.replicas ≡ h.config.replicas) where
  pub disk_onward : (disk : DiskName) → IsDisk g disk → IsDisk h disk
  disk_onward name.Topology is = tt
  disk_onward (name.Replica r) is = subst (λ n. r < n) replicas is
  disk_onward (name.Epoch s j) is = (is.0, subst (λ n. j < n) joiners is.1)
  disk_onward (name.Output s j) is = (is.0, subst (λ n. j < n) joiners is.1)
  disk_onward _ is = is

  pub disk_back : (disk : DiskName) → IsDisk h disk → IsDisk g disk
  disk_back name.Topology is = tt
  disk_back (name.Replica r) is = subst (λ n. r < n) (sym replicas) is
  disk_back (name.Epoch s j) is = (is.0, subst (λ n. j < n) (sym joiners) is.1)
  disk_back (name.Output s j) is = (is.0, subst (λ n. j < n) (sym joiners) is.1)
  disk_back _ is = is

  number_same : (s j : ℕ) → joiner_of g s j ≡ joiner_of h s j
  number_same s j = ap (λ n. 4 + n + s * g.config.joiners + j) replicas ∙ ap (λ n. first_joiner h + s * n + j) joiners

  pub keeps_onward : (d : Disks) (disk : DiskName) (c : List ℕ) → KeepsOf g d disk c → KeepsOf h d disk c
  keeps_onward d name.Topology c k = tt
  keeps_onward d (name.Epoch s j) c k = subst (λ n. KeepsEpoch (d.joiners n).epoch c) (number_same s j) k
  keeps_onward d (name.Output s j) c k = subst (λ n. KeepsPairs (d.joiners n).pairs c) (number_same s j) k
  keeps_onward d _ c k = k
