-- The fuses of one disk in a list of stops, and those that a plan has for it.
use Rattle.std.proofs.Common.{arith, ◌≡◌, List, [], ◌∷◌, ◌++◌, Bool, true, ◌&&◌, if◌then◌else◌, refl, sym, ◌∙◌, ap, ℕ, ◌+◌, ◌<◌, length, get_or, drop, append_assoc}
use Rattle.photon_cli.proofs.Words.{drop_more, DiskName, Fuse, same_name, fuses_for, PlanStop, is_for, fuse_of, planned_for}
use Rattle.mem_outside.specs.declared.store.Stop.{Stop}

-- one stop more
fuses_push : (xs : List Stop) (stop : Stop) (name : DiskName) → fuses_for (xs ++ stop ∷ []) name ≡ fuses_for xs name ++ (if same_name stop.name name then stop.fuse ∷ [] else [])
fuses_push [] stop name = refl
fuses_push (x ∷ xs) stop name = grind (arith, same_name, fuses_push xs stop name)

-- one stop more, where the disk's place says whether it has this name
pub pushed : (xs ys : List Stop) (found name : DiskName) (had fuse : Fuse) (named here : Bool) → ys ≡ xs ++ record { name = found; fuse = had } ∷ [] → had ≡ fuse → named ≡ true → same_name found name ≡ here
    → fuses_for ys name ≡ fuses_for xs name ++ (if named && here then fuse ∷ [] else [])
pushed xs ys found name had fuse named here more made is same = grind (arith, fuses_for, fuses_push)

-- the first of the stops
planned_first : (joiners : ℕ) (stop : PlanStop) (stops : List PlanStop) (name : DiskName) → planned_for joiners (stop ∷ stops) name ≡ (if is_for joiners stop name then fuse_of stop ∷ [] else []) ++ planned_for joiners stops name
planned_first joiners stop stops name = grind (arith, is_for)

-- a stop is taken from those that are left
pub taken : (joiners : ℕ) (stops : List PlanStop) (i : ℕ) (default : PlanStop) (name : DiskName) (made new all : List Fuse) → i < length stops
    → new ≡ made ++ (if is_for joiners (get_or stops i default) name then fuse_of (get_or stops i default) ∷ [] else [])
    → made ++ planned_for joiners (drop i stops) name ≡ all
    → new ++ planned_for joiners (drop (i + 1) stops) name ≡ all
taken joiners stops i default name made new all lt more before =
    let stop = get_or stops i default in
    let rest = drop (i + 1) stops in
    ap (λ (l : List Fuse). l ++ planned_for joiners (drop (i + 1) stops) name) more
    ∙ append_assoc made (if is_for joiners (get_or stops i default) name then fuse_of (get_or stops i default) ∷ [] else []) (planned_for joiners (drop (i + 1) stops) name)
    ∙ ap (λ (l : List Fuse). made ++ l) (sym (planned_first joiners stop rest name))
    ∙ ap (λ (l : List PlanStop). made ++ planned_for joiners l name) (sym (drop_more stops i default lt))
    ∙ before
