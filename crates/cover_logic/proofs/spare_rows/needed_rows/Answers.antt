use Rattle.cover_logic.proofs.spare_rows.needed_rows.Goals as goal

pub needed_by_passes-requires : goal.needed_by_passes-requires
needed_by_passes-requires c = c.requires.covers

pub returns-then-on-lt-BUNDLED_TERMS : goal.returns-then-on-lt-BUNDLED_TERMS
returns-then-on-lt-BUNDLED_TERMS c = c.needed_by_passes.ensures

pub needed_by_bundles-requires : goal.needed_by_bundles-requires
needed_by_bundles-requires c = record { width = c.requires.width; fits = c.requires.fits; on_fits = c.requires.on_fits; covers = c.requires.covers }

pub returns : goal.returns
returns c = c.needed_by_bundles.ensures
