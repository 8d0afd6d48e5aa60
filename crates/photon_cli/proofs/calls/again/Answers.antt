use Rattle.std.proofs.Common.{sym, subst}
use Rattle.photon_cli.proofs.Words.{KeepsOver, continues_same, setting_after, store_after}
use Rattle.photon_cli.proofs.Repeating.{checked_after, grown_after, kept_by, output_once, sound_after}
use Rattle.photon_cli.proofs.calls.again.Goals as goal

pub returns-clause-keeps : goal.returns-clause-keeps
returns-clause-keeps g c files later before after out out_later err err_later ran ran_later status w disks ends =
    let image = g.S.Store.image in
    kept_by _ _ _ disks _ _ _ _ _ (image before) (image after) _ _ _ _ _ _ _ status
    (λ same s. subst (λ x. KeepsOver s s (image before) (image x)) (sym same) (record { sound = λ sound. sound; grown = λ disk bytes now. continues_same (image before disk) bytes now })) w ends

pub returns-clause-once : goal.returns-clause-once
returns-clause-once g c s store calls checked sound are =
    let image = g.S.Store.image in
    output_once (setting_after image s calls) (image (store_after image store calls)) c.once.ensures.records c.same.ensures.records c.headline.ensures.once (checked_after image c.stores.ensures.checked s store calls checked are)
    (sound_after image c.longer.ensures s store calls sound are)

pub returns-clause-grown : goal.returns-clause-grown
returns-clause-grown g c s store calls are = grown_after g.S.Store.image s store calls are
