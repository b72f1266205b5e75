mod Flash
